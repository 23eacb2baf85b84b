-- The stops of a route, parts of them, and a loop over them. Assumes nothing.
use Prim.Native.Nat.{ℕ, ◌+◌, ◌-◌, ◌≤◌, ◌<◌}
use native.Mathlib.Omega.{arith}
use mathlib.Core.Path.{◌≡◌, sym}
use mathlib.Core.List.{List, [], ◌∷◌}
use lib.ListN.{length, get_or, take, drop, length-drop}
use lib.Seq.{length-take-le, get_or-take, get_or-drop, take_all}
use mir.Syntax.{w64}
use mir.Val.{Fits}
use borrow.Author.Rules.{rules}
use Rattle.labels.specs.laws.All.{All, all_of}
use Rattle.labels.specs.models.Problem.{Stops}

pub stop_below : (n : ℕ) (stops : List ℕ) (k : ℕ) → Stops n stops → k < length stops → get_or stops k 0 < n
stop_below n stops k s h = s.each k h

-- a loop's index can go up by one
pub count_up : (n : ℕ) (stops : List ℕ) (i : ℕ) → Stops n stops → i < length stops → Fits w64 (i + 1)
count_up n stops i s h = record { fits = omega (arith, s.few) }

pub ruleset stop_laws = (rules, stop_below, count_up)

pub stops_all : (n : ℕ) (stops : List ℕ) → Stops n stops → All (λ c. c < n) stops
stops_all n stops s = all_of stops 0 s.each

-- one stop is a route's part too
pub one_stop : (n c : ℕ) → c < n → Stops n (c ∷ [])
one_stop n c h = record { few = omega arith; each = λ k g. let e : k ≡ 0 = omega arith in rw e h }

-- ---- parts of a route, as `&route[..pos]` and `&route[pos..]` hand them on

pub front_count : (pos : ℕ) (route : List ℕ) → pos ≤ length route → pos ≡ length (take pos route)
front_count pos route h = sym (length-take-le pos route h)

pub front_stops : (n pos : ℕ) (route : List ℕ) → Stops n route → pos ≤ length route → Stops n (take pos route)
front_stops n pos route s h =
    let l : length (take pos route) ≡ pos = length-take-le pos route h in
    record { few = omega (arith, s.few); each = λ k g. let i : k < pos = omega (arith, l) in rw (get_or-take pos route k 0 i) (s.each k (omega arith)) }

-- a part that goes to the end is counted
pub tail_part : (pos : ℕ) (route : List ℕ) → take (length route - pos) (drop pos route) ≡ drop pos route
tail_part pos route = take_all (length route - pos) (drop pos route) (omega (arith, length-drop pos route))

pub tail_stops : (n pos : ℕ) (route : List ℕ) → Stops n route → pos ≤ length route → Stops n (take (length route - pos) (drop pos route))
tail_stops n pos route s h =
    let l : length (drop pos route) ≡ length route - pos = length-drop pos route in
    rw (tail_part pos route)
    (record { few = omega (arith, s.few); each = λ k g. rw (get_or-drop pos route k 0) (s.each (pos + k) (omega (arith, l))) })

pub ruleset part_laws = (rules, front_count, front_stops, tail_stops)

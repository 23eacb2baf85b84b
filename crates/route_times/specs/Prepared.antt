-- The departures and latest arrivals of a route in work cells, before its positions are tried. Assumes nothing.
use Rattle.std.specs.Prelude.{ℕ, ◌≡◌, Bool, length, take}
use Rattle.std.proofs.Math.Path.{refl, ap}
use Rattle.std.proofs.Common.{sym, ◌∙◌, true≢false}
use Rattle.std.proofs.Math.Bool.{true, false}
use mathlib.Core.List.{List, []}
use Rattle.std.specs.Prelude.{Option, None, Some}
use Rattle.walked_times.specs.models.Problem.{Problem, problem_of}
use Rattle.walked_times.specs.route_load.Feasible.{constrained}
use Rattle.walked_times.specs.quick_test.Quick.{Times, times}
use Rattle.walked_times.specs.quick_test.Parts.{told}
use Rattle.route_times.specs.declared.Times.{Times as Cells}

-- the departures and the latest arrivals of a route of m stops: each in the first m of its cells
abbrev pub held : ℕ → Cells → Times
held m cells = record { departures = take m cells.departures.now; latest = take m cells.latest.now }

-- The two slices are still the same ones.
pub record Keeps (old new : Cells) : Type 0 where
  pub same_departures : new.departures.ghost_name ≡ old.departures.ghost_name
  pub same_latest : new.latest.ghost_name ≡ old.latest.ghost_name
  pub departures_count : length new.departures.now ≡ length old.departures.now
  pub latest_count : length new.latest.now ≡ length old.latest.now

-- Where the check is needed, r is false if the departures miss a window, and else these are the times. Where it is not, r is true.
pub record Prepared (p : Problem) (route : List ℕ) (r : Bool) (t : Times) : Type 0 where
  pub needed : constrained p ≡ true → times p route ≡ told r t
  pub unneeded : constrained p ≡ false → r ≡ true

-- ---- for callers

-- a route that is passed over; and one that is not: what reads the times only where the check is needed may read those that are held
module _ (p : Problem) (route : List ℕ) (r : Bool) (t : Times) (h : Prepared p route r t) where
  pub prepared_missed : r ≡ false → times p route ≡ None
  prepared_missed e = go (constrained p) refl
    where
      go : (b : Bool) → constrained p ≡ b → times p route ≡ None
      go true k = h.needed k ∙ ap (λ (v : Bool). told v t) e
      go false k = absurd (true≢false (sym (h.unneeded k) ∙ e))

  pub prepared_read : {A : Type 0} (f : Option Times → A) (g : Times → A) → ((t : Times) → f (Some t) ≡ g t) → (constrained p ≡ false → (t u : Times) → g t ≡ g u)
      → r ≡ true → f (times p route) ≡ g t
  unfolding times
  prepared_read f g same unread e = go (constrained p) refl
    where
      go : (b : Bool) → constrained p ≡ b → f (times p route) ≡ g t
      go true k = ap f (h.needed k ∙ ap (λ (v : Bool). told v t) e) ∙ same t
      go false k = rw k (same (record { departures = []; latest = [] }) ∙ unread k (record { departures = []; latest = [] }) t)

-- no demand is read
pub prepared_any : (p : Problem)
    (route : List ℕ) (r : Bool) (t : Times)
    → Prepared (problem_of [] p.places p.roads p.vehicle) route r t
    → Prepared p route r t
unfolding times
prepared_any p route r t h = record { needed = h.needed; unneeded = h.unneeded }

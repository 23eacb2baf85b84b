-- Laws of `worth` and `insertion_worth`, each from the facts that the code has where it needs it. Assumes nothing.
use Prim.Native.Nat.{ℕ, ◌+◌, ◌≤◌, ◌<◌}
use native.Mathlib.Omega.{arith}
use mathlib.Core.Path.{◌≡◌, refl, sym, ap, ◌∙◌}
use mathlib.Core.Bool.{Bool, true, false}
use mathlib.Core.List.{List, ◌++◌}
use Rattle.std.specs.Prelude.{Option, Some, None, cond}
use lib.ListN.{length, take, drop, length-append, length-drop}
use lib.Seq.{take_at}
use lib.Ieee.{Float}
use Rattle.route_worth.specs.floats.Binary64.{◌⊖◌}
use Rattle.route_worth.specs.laws.All.{all_of, all_get}
use Rattle.route_worth.specs.laws.Edits.{insert_at, length_insert_at, all_insert_at}
use Rattle.route_worth.specs.models.declared.limits.RouteLimits.{RouteLimits}
use Rattle.route_worth.specs.models.RouteLimits.{limits_of}
use Rattle.route_worth.specs.models.Problem.{Problem, Stops, depot}
use Rattle.route_worth.specs.evaluation.Eval.{effective_cost}
use Rattle.insertion_cost.specs.plan.Parts.{insert_at_in_use}
use Rattle.insertion_cost.specs.route_cost.Route.{route_distance, insertion_cost}
use Rattle.reinsertion_worth.specs.Worth.{soft, worth, insertion_worth, current}

-- ---- a route, with a soft window and without one

module _ (p : Problem) (r : List ℕ) (s : Bool) (e : s ≡ soft p) (x : Float) where
  pub worth_soft : (l : RouteLimits) → s ≡ true → l ≡ limits_of p.vehicle → x ≡ effective_cost p.places p.roads (depot p) l r → x ≡ worth p r
  unfolding worth
  worth_soft l h k g = rw (← e, h, ← k) g

  pub worth_hard : s ≡ false → x ≡ route_distance p.roads (depot p) r → x ≡ worth p r
  unfolding worth
  worth_hard h g = rw (← e, h) g

pub ruleset worth_laws = (worth_soft, worth_hard)

-- ---- an insertion

-- what `current` says tells whether a window is soft
told_soft : (s : Bool) (b w : Float) → Some b ≡ cond s (Some w) None → (s ≡ true) × (b ≡ w)
told_soft true b w e = (refl, cc)
told_soft false b w e = cc

told_hard : (s : Bool) (w : Float) → None ≡ cond s (Some w) None → s ≡ false
told_hard true w e = cc
told_hard false w e = refl

module _ (p : Problem) (r : List ℕ) (pos c : ℕ) (x : Float) (o : Option Float) (e : o ≡ current p r) where
  pub insertion_soft : (b : Float) → o ≡ Some b → x ≡ effective_cost p.places p.roads (depot p) (limits_of p.vehicle) (insert_at pos c r)
      → x ⊖ b ≡ insertion_worth p r pos c
  unfolding insertion_worth worth
  insertion_soft b f g = let t = told_soft (soft p) b (worth p r) (sym f ∙ e) in rw (g, t.1, t.0)

  pub insertion_hard : o ≡ None → x ≡ insertion_cost p.roads (depot p) r pos c → x ≡ insertion_worth p r pos c
  unfolding insertion_worth
  insertion_hard h g = rw (told_hard (soft p) (worth p r) (sym h ∙ e)) g

pub ruleset insertion_laws = (insertion_soft, insertion_hard)

-- ---- the trial route

module _ (t route t₁ : List ℕ) (pos c : ℕ) (h : pos ≤ length route) (k : length route < length t) (e : t₁ ≡ route) where
  -- the route in the first cells
  abbrev whole : List ℕ
  whole = t₁ ++ drop (length route) t

  copied : take (length route) whole ≡ route
  copied = take_at t₁ (drop (length route) t) (length route) (ap length e) ∙ e

  room : length route < length whole
  room = rw (length-append t₁ (drop (length route) t), e, length-drop) (omega arith)

  pub trial_built : {t₂ : List ℕ} → t₂ ≡ take (length (take (length route + 1) whole)) (insert_at pos c (take (length route + 1) whole))
      → take (length route + 1) (t₂ ++ drop (length route + 1) whole) ≡ insert_at pos c route
  trial_built f =
      rw (f, insert_at_in_use whole (length route) pos c h room, copied)
      (take_at (insert_at pos c route) (drop (length route + 1) whole) (length route + 1) (length_insert_at pos c route h))

module _ (n : ℕ) (route : List ℕ) (pos c : ℕ) (s : Stops n route) (h : pos ≤ length route) (k : c < n) (few : length route < 256) where
  pub trial_stops : Stops n (insert_at pos c route)
  trial_stops =
      record {
        few = omega (arith, length_insert_at pos c route h);
        each = λ i g. all_get {P = λ x. x < n} i 0 (all_insert_at pos c {xs = route} k (all_of route 0 s.each)) g;
      }

  pub trial_part : {t : List ℕ} → t ≡ insert_at pos c route → Stops n t
  trial_part e = rw e trial_stops

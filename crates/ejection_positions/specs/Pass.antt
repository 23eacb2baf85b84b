-- The parts of the search over positions that have a function of their own: a position without the load test, which is made once for what is kept; and
-- whether none ranks first. Assumes nothing.
use Rattle.std.specs.Prelude.{ℕ, suc, ◌≡◌, Bool, true, false, cond, List, length}
use Rattle.std.proofs.Math.Path.{refl}
use Rattle.std.proofs.Math.Bool.{not}
use Rattle.std.specs.Prelude.{Option, None, Some}
use borrow.Author.Tests.{not-true}
use Rattle.ejection.specs.laws.Loops.{loop_rule}
use Rattle.ejection.specs.laws.Searches.{every, every_at}
use Rattle.ejection.specs.models.Problem.{DistanceMatrix, Problem, depot}
use Rattle.ejection.specs.route_cost.Route.{insertion_cost}
use Rattle.ejection.specs.route_load.Feasible.{constrained, has_room}
use Rattle.ejection.specs.quick_test.Quick.{Times}
use Rattle.ejection.specs.insertion.Pass.{may_pass, may_pass_room, may_go_in_untimed}
use Rattle.ejection.specs.declared.Ejection.{Ejection}
use Rattle.ejection.specs.Eject.{outranks, try_in_kept, try_kept}

-- a turn of the loop over positions of a kept part that has room for c
unfoldable pub pass_in_kept : Problem → ℕ → ℕ → ℕ → ℕ → ℕ → List ℕ → Times → ℕ → Option Ejection → Option Ejection
pass_in_kept p c n k i j left t pos best =
    let x = insertion_cost p.roads (depot p) left pos c in
    cond (outranks n x best)
    (cond (may_pass p left t pos c) (Some (record { failed = n; cost = x; route = k; first = i; second = j; pos = pos })) best)
    best

module _ (p : Problem) (c n k i j : ℕ) (left : List ℕ) (t : Times) (pos : ℕ) (best : Option Ejection) where
  pub pass_in_kept_room : has_room p left c ≡ true → pass_in_kept p c n k i j left t pos best ≡ try_in_kept p c n k i j left t pos best
  unfolding pass_in_kept try_in_kept
  pass_in_kept_room h = rw (may_pass_room p left t pos c h)

  pub try_in_kept_untimed : (u : Times) → constrained p ≡ false → try_in_kept p c n k i j left t pos best ≡ try_in_kept p c n k i j left u pos best
  unfolding try_in_kept
  try_in_kept_untimed u e = rw (may_go_in_untimed p left t u pos c e)

-- no position of the kept part outranks the best so far
unfoldable pub none_outranks : DistanceMatrix → ℕ → ℕ → ℕ → List ℕ → Option Ejection → Bool
none_outranks m depot c n left best = every (λ pos. not (outranks n (insertion_cost m depot left pos c) best)) (suc (length left)) 0

module _ (p : Problem) (c n k i j : ℕ) (left : List ℕ) (best : Option Ejection) where
  beaten_stays : (t : Times) (pos : ℕ) (b : Option Ejection) → b ≡ best → not (outranks n (insertion_cost p.roads (depot p) left pos c) best) ≡ true
      → try_in_kept p c n k i j left t pos b ≡ best
  unfolding try_in_kept
  beaten_stays t pos b same f = rw (same, not-true (outranks n (insertion_cost p.roads (depot p) left pos c) best) f)

  -- Then the best so far stays, whatever the tests say: each turn of the loop leaves it.
  pub none_outranks_stays : none_outranks p.roads (depot p) c n left best ≡ true → (o : Option Times) → try_kept p c n k i j left o best ≡ best
  unfolding none_outranks try_kept
  none_outranks_stays e None = refl
  none_outranks_stays e (Some t) =
      loop_rule (λ (pos : ℕ) (b : Option Ejection). b ≡ best) (suc (length left)) (try_in_kept p c n k i j left t)
      (λ pos b h same. beaten_stays t pos b same (every_at (λ q. not (outranks n (insertion_cost p.roads (depot p) left q c) best)) (suc (length left)) pos e h))
      refl

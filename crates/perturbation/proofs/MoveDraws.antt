-- How much a move and a perturbation draw. Assumes nothing.
use Rattle.std.specs.Prelude.{ℕ, zero, suc, ◌+◌, ◌*◌, ◌-◌, ◌≤◌, ◌<◌, ◌≡◌, refl, true, cond, ◌&&◌, get_or, set, leb, ltb}
use Rattle.std.proofs.Common.{subst, mod-lt, arith, ltb-false, leb-true, leb-false}
use Rattle.std.proofs.lemmas.Bool.{false≢true}
use mathlib.Core.List.{List, [], ◌∷◌, ◌++◌}
use Rattle.std.proofs.Math.Nat.{le_refl}
use Rattle.std.proofs.Math.ListN.{length, take, drop}
use Rattle.ejection_search.specs.laws.Searches.{and_first, and_second}
use Rattle.ejection_search.specs.laws.All.{All}
use Rattle.ejection_search.specs.laws.Loops.{cond_rule, loop_rule}
use Rattle.ejection_search.specs.models.Problem.{Problem}
use Rattle.ejection_search.specs.plan.Plan.{Plan, route, exchange_stops, exchange_tails, non_empty, occurs}
use Rattle.ejection_search.specs.PlanExchanges.{length_exchange_stops, all_exchange_stops, occurs_exchange_stops, first_exchange_stops, second_exchange_stops, length_exchange_tails, all_exchange_tails, occurs_exchange_tails, first_exchange_tails, second_exchange_tails}
use Rattle.ejection_search.specs.route_load.Feasible.{feasible}
use Rattle.perturbation.specs.Perturb.{word, draw, draw_bool, stands, both_non_empty, try_exchange, try_tails, try_move, Drawn, move_between, other_than, move, perturb}

module _ (p : Problem) (tape : List ℕ) where
  -- "moves of at most five draws each"
  pub move_draws : (s : Drawn) → (move p tape s).draws ≤ s.draws + 5
  unfolding move move_between
  move_draws s =
      cond_rule (λ (d : Drawn). d.draws ≤ s.draws + 5) (both_non_empty (draw tape s.draws (length s.routes)) (other_than (draw tape s.draws (length s.routes)) (draw tape (s.draws + 1) (length s.routes - 1))) s.routes)
      (λ _. le_refl (s.draws + 5)) (λ _. omega arith)

  pub perturb_draws : (s : Drawn) → (perturb p tape s).draws ≤ s.draws + 500
  unfolding perturb
  perturb_draws s =
      cond_rule (λ (d : Drawn). d.draws ≤ s.draws + 500) (ltb (length s.routes) 2) (λ _. omega arith)
      (λ _. loop_rule (λ i (d : Drawn). d.draws ≤ s.draws + 5 * i) 100 (λ i. move p tape) (λ i t _ h. omega (arith, move_draws t)) (omega arith))

-- The next attempt of a round with the pool: what the round starts with costs, and what each answer of an attempt says. Assumes nothing.
use Prim.Native.Nat.{ℕ, ◌*◌, ◌≤◌}
use mathlib.Core.Path.{◌≡◌, sym, ap, subst, ◌∙◌}
use mathlib.Core.List.{List}
use Rattle.std.proofs.Common.{Option, Some, Result, Ok, Err}
use lib.ListN.{length, take}
use lib.Ieee.{Float}
use Rattle.minimization.specs.models.Problem.{Problem, of_roads}
use Rattle.minimization.specs.route_order.declared.Pick.{Pick}
use Rattle.minimization.specs.plan.Plan.{split, total, padded, drop_zero}
use Rattle.minimization.specs.plan.Given.{plan_of, Keeps}
use Rattle.minimization.specs.plan.declared.routes.Routes.{Routes}
use Rattle.minimization.specs.route_order.Order.{next_pick, following}
use Rattle.minimization.specs.local_search.declared.rounds.Counts.{Counts}
use Rattle.minimization.specs.local_search.Planned.{Planned}
use Rattle.minimization.specs.route_cost.Route.{cost}
use Rattle.minimization.specs.local_search.Rounds.{Tried, try_each}
use Rattle.minimization.specs.local_search.Search.{Refused, Taken, but_last}
use Rattle.minimization.specs.LocalSearchNextLaws.{in_use, next_kept, next_refused, next_accepted, next_taken}
use Rattle.minimization.specs.ejection_pool.Pool.{Allowance}
use Rattle.minimization.specs.pool_cost.Attempt.{attempt}
use Rattle.minimization.specs.Attempted.{attempt_reduces}
use Rattle.route_attempt.specs.pool_attempt.Judged.{tried}
use Rattle.route_attempt.specs.Leaves.{Leaves}
use Rattle.minimization.specs.PoolCostCostLaws.{cost_whole}

-- ---- the start of a round

-- L is what `drop_empty` leaves of ls, and k what it returns
module _ (ls L : List ℕ) (k : ℕ) (e : L ≡ padded (length ls) (drop_zero ls)) (c : k ≡ length (drop_zero ls)) (s : List ℕ) (p : Problem) (x : Float) where
  pub begun_cost : x ≡ cost p (split (take k L) s) → x ≡ cost p (split (drop_zero ls) s)
  begun_cost f = f ∙ ap (λ (l : List ℕ). cost p (split l s)) (in_use ls L k e c)

  pub round_cost : x ≡ cost (of_roads p.roads p.vehicle) (split (drop_zero ls) s) → x ≡ cost p (split (take k L) s)
  round_cost f = f ∙ cost_whole p (split (drop_zero ls) s) ∙ ap (λ (l : List ℕ). cost p (split l s)) (sym (in_use ls L k e c))

-- ---- the next attempt

module _ (old : Routes) (last x : Option Pick) (e : x ≡ next_pick old.lengths.now last) (pick : Pick) (h : x ≡ Some pick) (given : Allowance) (p : Problem) (n : Counts)
    (a : Result Counts Counts) (new : Routes)
    (t : tried a (split (but_last new.lengths.now) new.stops.now) ≡ attempt given p (plan_of old) pick.route n) (held : Leaves a old new)
    (m : Counts) (d : n.draws ≤ 500 * n.steps) where
  told : (b : Result Counts Counts) → a ≡ b → tried b (split (but_last new.lengths.now) new.stops.now) ≡ attempt given p (plan_of old) pick.route n
  told b f = ap (λ (b : Result Counts Counts). tried b (split (but_last new.lengths.now) new.stops.now)) (sym f) ∙ t

  leaves : (b : Result Counts Counts) → a ≡ b → Leaves b old new
  leaves b f = subst (λ (b : Result Counts Counts). Leaves b old new) f held

  module _ (f : a ≡ Err m) where
    pub kept_round : try_each (attempt given p) (plan_of old) (following old.lengths.now (Some pick)) m ≡ try_each (attempt given p) (plan_of old) (following old.lengths.now last) n
    kept_round =
        next_kept old.lengths.now last x e pick h (attempt given p) given.limit (attempt_reduces given p) old.stops.now n m new.lengths.now new.stops.now d (told (Err m) f)

    pub kept_held : Refused given.limit old.lengths.now old.stops.now last n pick m new.lengths.now new.stops.now
    kept_held =
        let same = leaves (Err m) f in
        next_refused old.lengths.now last x e pick h (attempt given p) given.limit (attempt_reduces given p) old.stops.now n m new.lengths.now new.stops.now d (told (Err m) f) same.0 same.1

  module _ (f : a ≡ Ok m) where
    pub accepted_round : ◌≡◌ {A = Tried} (record { plan = Some (split (but_last new.lengths.now) new.stops.now); counts = m })
        (try_each (attempt given p) (plan_of old) (following old.lengths.now last) n)
    accepted_round =
        next_accepted old.lengths.now last x e pick h (attempt given p) given.limit (attempt_reduces given p) old.stops.now n m new.lengths.now new.stops.now d (told (Ok m) f)

    pub accepted_held : total old.lengths.now ≡ length old.stops.now → Keeps old new → Planned p.roads.size (plan_of old)
        → Taken given.limit p.roads.size old.lengths.now last n m new.lengths.now new.stops.now
    accepted_held whole kept planned =
        next_taken old.lengths.now last x e pick h (attempt given p) given.limit (attempt_reduces given p) old.stops.now n m new.lengths.now new.stops.now d (told (Ok m) f)
        p.roads.size whole kept.room planned (leaves (Ok m) f)

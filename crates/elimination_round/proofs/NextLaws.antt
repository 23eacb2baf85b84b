-- The next attempt of a round: what it asks for, and what each of its answers says. Assumes nothing.
use Prim.Native.Nat.{ℕ, ◌-◌}
use mathlib.Core.Path.{◌≡◌, sym, ap, ◌∙◌}
use mathlib.Core.Bool.{Bool, true, false}
use mathlib.Core.List.{List, [], ◌∷◌, ◌++◌}
use Rattle.std.proofs.Common.{Option, None, Some}
use native.Mathlib.Omega.{arith}
use lib.ListN.{take}
use Rattle.elimination_attempt.specs.models.Problem.{Problem}
use Rattle.elimination_attempt.specs.route_order.declared.Pick.{Pick}
use Rattle.elimination_attempt.specs.plan.Plan.{Plan, split, total}
use Rattle.elimination_attempt.specs.plan.Given.{plan_of, Keeps}
use Rattle.elimination_attempt.specs.plan.declared.routes.Routes.{Routes}
use Rattle.elimination_attempt.specs.route_order.Order.{next_pick, following}
use Rattle.elimination_attempt.specs.local_search.Options.{then_some}
use Rattle.elimination_attempt.specs.local_search.Rounds.{Tried, try_each}
use Rattle.elimination_attempt.specs.local_search.Search.{EndsWith0, but_last, Refused, Taken, uncounted}
use Rattle.elimination_attempt.specs.LocalSearchNextLaws.{pick_there, next_kept, next_refused, next_accepted, next_taken}
use Rattle.elimination_attempt.specs.elimination_moves.Eliminate.{without_route, attempt}
use Rattle.elimination_attempt.specs.emptied_route.Attempts.{Attempted, fewer, Left}
use Rattle.elimination_round.specs.Eliminating.{Eliminating}
use Rattle.elimination_attempt.specs.elimination_moves.Eliminated.{attempt_reduces}

module _ (lent : Routes) (last x : Option Pick) (e : x ≡ next_pick lent.lengths.now last) (pick : Pick) (h : x ≡ Some pick) (p : Problem) (work : List ℕ) (g : Eliminating p lent work) where
  pub next_attempted : Attempted p lent pick.route
  next_attempted = record { planned = g.planned; there = pick_there lent.lengths.now last x e pick h }

  module _ (b : Bool) (new : Routes) (t : then_some b (split (fewer lent.lengths.now new.lengths.now) new.stops.now) ≡ without_route p (plan_of lent) pick.route) (held : Left b lent new) where
    told : (v : Bool) → b ≡ v → then_some v (split (fewer lent.lengths.now new.lengths.now) new.stops.now) ≡ without_route p (plan_of lent) pick.route
    told v f = ap (λ (v : Bool). then_some v (split (fewer lent.lengths.now new.lengths.now) new.stops.now)) (sym f) ∙ t

    pub route_kept : b ≡ false
        → (try_each (attempt p) (plan_of lent) (following lent.lengths.now (Some pick)) uncounted ≡ try_each (attempt p) (plan_of lent) (following lent.lengths.now last) uncounted)
        × Refused 0 lent.lengths.now lent.stops.now last uncounted pick uncounted new.lengths.now new.stops.now
    unfolding attempt then_some
    route_kept f =
        let q : ◌≡◌ {A = Tried} (record { plan = None; counts = uncounted }) (attempt p (plan_of lent) pick.route uncounted) =
        ap (λ (o : Option Plan). record { plan = o; counts = uncounted }) (told false f) in (
          next_kept lent.lengths.now last x e pick h (attempt p) 0 (attempt_reduces p) lent.stops.now uncounted uncounted new.lengths.now new.stops.now (omega arith) q,
          next_refused lent.lengths.now last x e pick h (attempt p) 0 (attempt_reduces p) lent.stops.now uncounted uncounted new.lengths.now new.stops.now (omega arith) q (held.lengths_back f) (held.stops_back f),
        )

    pub route_gone : b ≡ true → Keeps lent new
        → (◌≡◌ {A = Tried} (record { plan = Some (split (but_last new.lengths.now) new.stops.now); counts = uncounted }) (try_each (attempt p) (plan_of lent) (following lent.lengths.now last) uncounted))
        × Taken 0 p.roads.size lent.lengths.now last uncounted uncounted new.lengths.now new.stops.now
    unfolding attempt then_some
    route_gone f k =
        let a = held.accepted f in
        let same : fewer lent.lengths.now new.lengths.now ≡ but_last new.lengths.now = ap (λ (n : ℕ). take (n - 1) new.lengths.now) (sym k.count) in
        let q : ◌≡◌ {A = Tried} (record { plan = Some (split (but_last new.lengths.now) new.stops.now); counts = uncounted }) (attempt p (plan_of lent) pick.route uncounted) =
        ap (λ (l : List ℕ). record { plan = Some (split l new.stops.now); counts = uncounted }) (sym same) ∙ ap (λ (o : Option Plan). record { plan = o; counts = uncounted }) (told true f) in
        let ends : EndsWith0 new.lengths.now new.stops.now = record {
          zero_last = a.last ∙ ap (λ (l : List ℕ). l ++ 0 ∷ []) same;
          lent = record { inside = omega (arith, ap total same, a.sum, g.whole, k.room); few = omega (arith, g.few, k.room) };
        } in (
          next_accepted lent.lengths.now last x e pick h (attempt p) 0 (attempt_reduces p) lent.stops.now uncounted uncounted new.lengths.now new.stops.now (omega arith) q,
          next_taken lent.lengths.now last x e pick h (attempt p) 0 (attempt_reduces p) lent.stops.now uncounted uncounted new.lengths.now new.stops.now (omega arith) q p.roads.size g.whole k.room g.planned ends,
        )

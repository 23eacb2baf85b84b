-- One stop moved, each law from the facts that the code has where it needs it. Assumes nothing.
use Prim.Native.Nat.{ℕ, ◌+◌, ◌<◌}
use native.Mathlib.Omega.{arith}
use mathlib.Core.Path.{◌≡◌, sym, ap, ◌∙◌}
use mathlib.Core.List.{[]}
use Rattle.std.proofs.Common.{Option, None, Some}
use lib.ListN.{length}
use Rattle.reinsertion.specs.floats.Binary64.{◌⊕◌}
use Rattle.reinsertion.specs.laws.All.{all_get}
use Rattle.reinsertion.specs.models.Problem.{Problem, Stops}
use Rattle.reinsertion.specs.plan.Plan.{HasPosition, route, lengths_of, total, put_in}
use Rattle.reinsertion.specs.plan.Given.{plan_of, routes_left, Becomes}
use Rattle.reinsertion.specs.plan.declared.each.EachRoute.{EachRoute}
use Rattle.reinsertion.specs.plan.declared.routes.Routes.{Routes}
use Rattle.reinsertion.specs.plan.Slices.{lengths_split, length_split, length_route, route_within}
use Rattle.reinsertion.specs.plan.Routes.{all_put_in}
use Rattle.reinsertion.specs.route_cost.declared.Insertion.{Insertion}
use Rattle.reinsertion.specs.reinsertion_candidates.declared.Move.{Move}
use Rattle.reinsertion.specs.reinsertion_candidates.Candidates.{candidates, by_cost, first_passing}
use Rattle.elimination_moves.specs.Eliminate.{move_stop}
use Rattle.reinsertion.specs.reinsertion_candidates.Asked.{Asked, Room}
use Rattle.stop_moves.specs.Moves.{so_far, Grown, place_inside, move_nowhere, move_there}
use Rattle.reinsertion.specs.ReinsertionWorthWorthLaws.{trial_stops}

-- the routes of the plan, one after the other, are as few
pub each_room : (n : ℕ) (old : Routes) (each : EachRoute) → routes_left each ≡ plan_of old → Room n old.lengths.now old.stops.now → Room n each.lengths.now each.stops.now
each_room n old each same r =
    let l : each.lengths.now ≡ old.lengths.now =
    sym (lengths_split each.lengths.now each.stops.now each.lent.inside) ∙ ap lengths_of same ∙ lengths_split old.lengths.now old.stops.now old.lent.inside in
    record { routes = rw same r.routes; few = rw l r.few }

module _ (p : Problem) (m : Move) (old : Routes) (a : Asked p m) (each : EachRoute) (same : routes_left each ≡ plan_of old) (best : Option Insertion)
    (found : best ≡ first_passing p (routes_left each) m.c m.added m.saved (by_cost (candidates p m.c (routes_left each)))) where
  e : best ≡ first_passing p (plan_of old) m.c m.added m.saved (by_cost (candidates p m.c (plan_of old)))
  e = rw same at found

  pub stop_stays : best ≡ None → None ≡ move_stop p m.saved (so_far (plan_of old) m.added) m.c
  stop_stays f = move_nowhere p (plan_of old) m.c m.added m.saved (sym f ∙ e)

  module _ (x : Insertion) (f : best ≡ Some x) where
    pub stop_position : HasPosition (plan_of old) x.route x.pos
    stop_position = place_inside p (plan_of old) m.c m.added m.saved x (sym f ∙ e)

    module _ (new : Routes) (h : Becomes old (put_in x.route x.pos m.c (plan_of old)) (total old.lengths.now + 1) new) where
      pub stop_moved : Some (so_far (plan_of new) (m.added ⊕ x.cost)) ≡ move_stop p m.saved (so_far (plan_of old) m.added) m.c
      stop_moved = rw h.routes (move_there p (plan_of old) m.c m.added m.saved x (sym f ∙ e))

      pub stop_kept : Room p.roads.size old.lengths.now old.stops.now → Grown p.roads.size (total old.lengths.now + 1) new
      stop_kept r =
          let g = stop_position in
          let ls = old.lengths.now in
          let s = old.stops.now in
          let k : x.route < length ls = omega (arith, g.there, length_split ls s) in
          let st : Stops p.roads.size (route x.route (plan_of old)) = all_get x.route [] r.routes g.there in
          let few : length (route x.route (plan_of old)) < 256 = omega (arith, length_route ls s old.lent.inside x.route, route_within ls x.route k, r.few) in
          record {
            sum = h.sum;
            routes =
                rw h.routes
                (all_put_in x.route x.pos m.c (plan_of old) (trial_stops p.roads.size (route x.route (plan_of old)) x.pos m.c st g.within a.there few) r.routes);
          }

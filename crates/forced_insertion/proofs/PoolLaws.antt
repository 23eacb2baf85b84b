-- Laws of a stop that goes into the routes, each from the facts that the code has where it needs it. Assumes nothing.
use Prim.Native.Nat.{ℕ, ◌+◌, ◌≤◌, ◌<◌}
use native.Mathlib.Omega.{arith}
use mathlib.Core.Path.{◌≡◌, refl, sym, ap, subst, ◌∙◌}
use mathlib.Core.List.{List, [], ◌∷◌, ◌++◌, reverse}
use Rattle.std.proofs.Common.{Option, None, Some, Ok, Err}
use borrow.Author.Tests.{ne_eqb}
use lib.ListN.{length, length-append, length-reverse}
use lib.Dec.{eqb}
use Rattle.cheapest_insertion.specs.laws.All.{all_of}
use Rattle.cheapest_insertion.specs.laws.Counts.{count, one_if}
use Rattle.cheapest_insertion.specs.models.Problem.{Problem}
use Rattle.cheapest_insertion.specs.plan.Plan.{Plan, HasPosition, flat, total, occurs}
use Rattle.cheapest_insertion.specs.plan.Given.{plan_of, routes_left, Becomes}
use Rattle.cheapest_insertion.specs.plan.declared.each.EachRoute.{EachRoute}
use Rattle.cheapest_insertion.specs.plan.declared.routes.Routes.{Routes}
use Rattle.cheapest_insertion.specs.plan.Slices.{total_lengths, lengths_split}
use Rattle.cheapest_insertion.specs.route_cost.declared.Insertion.{Insertion}
use Rattle.cheapest_insertion.specs.local_search.declared.rounds.Counts.{Counts}
use Rattle.cheapest_insertion.specs.local_search.Options.{each_found}
use Rattle.cheapest_insertion.specs.local_search.Planned.{Planned}
use Rattle.cheapest_insertion.specs.insertion.Cheapest.{cheapest}
use Rattle.cheapest_insertion.specs.insertion.Inserted.{Inserts, cheapest_found}
use Rattle.made_room.specs.ejection.declared.Ejection.{Ejection}
use Rattle.made_room.specs.ejection.Eject.{eject, ejected, make_room, gone}
use Rattle.made_room.specs.ejection.Ejected.{Inside, Ejects, eject_found}
use Rattle.made_room.specs.ejection_made.Made.{Stack, pooled, Made}
use Rattle.made_room.specs.perturbation.Perturb.{perturb}
use Rattle.ejection_pool.specs.Pool.{after_eject}
use Rattle.ejection_pool.proofs.Placing.{Placing, eject_keeps}
use Rattle.forced_insertion.specs.Turned.{as_turn}

-- ---- the cheapest place

pub somewhere_inside : (p : Problem) (routes : Plan) (c : ℕ) (best : Option Insertion) → best ≡ cheapest p routes c → (x : Insertion) → best ≡ Some x
    → HasPosition routes x.route x.pos
somewhere_inside p routes c best e x h =
    let f = each_found (Inserts p routes c) (cheapest p routes c) (sym e ∙ h) (cheapest_found p routes c) in
    record { there = f.there; within = f.within }

-- ---- the ejection

-- someone leaves
gone_some : (routes : Plan) (e : Ejection) → 1 ≤ length (reverse (gone routes e))
unfolding ejected
gone_some routes e = rw (length-reverse (gone routes e)) (omega arith)

abbrev Any : List ℕ → Type 0
Any r = Unit

-- a plan in two lent slices has as many stops as they say
pub held_number : (r : Routes) → total r.lengths.now ≡ length (flat (plan_of r))
held_number r = ap total (sym (lengths_split r.lengths.now r.stops.now r.lent.inside)) ∙ total_lengths (plan_of r)

-- and so many as the routes that are read from them
pub read_number : (w : EachRoute) (r : Routes) → routes_left w ≡ plan_of r → total w.lengths.now ≡ total r.lengths.now
read_number w r e =
    ap total (sym (lengths_split w.lengths.now w.stops.now w.lent.inside)) ∙ total_lengths (routes_left w) ∙ ap (λ (plan : Plan). length (flat plan)) e ∙ sym (held_number r)

module _ (p : Problem) (c : ℕ) (failures : List ℕ) (old : Routes) {best : Option Ejection} (h : best ≡ eject p (plan_of old) c failures) {e : Ejection} (b : best ≡ Some e) where
  leaves : eject p (plan_of old) c failures ≡ Some e
  leaves = sym h ∙ b

  found : Ejects p (plan_of old) c e
  found = each_found (Ejects p (plan_of old) c) (eject p (plan_of old) c failures) leaves (eject_found p (plan_of old) c failures)

  pub leaves_inside : Inside (plan_of old) e
  leaves_inside = found.inside

  -- `new` is the plan with c in it
  module _ {before after : Stack} {new : Routes} (g : Made old before c e new after) where
    fewer : total new.lengths.now ≤ total old.lengths.now
    fewer = omega (arith, g.sum, length-reverse after.items, ap length g.top, length-append (reverse (gone (plan_of old) e)) (pooled before), length-reverse before.items, gone_some (plan_of old) e)

    pub room_planned : c < p.roads.size → Planned p.roads.size (plan_of old) → Planned p.roads.size (plan_of new)
    unfolding flat count one_if
    room_planned c-in d =
        let kept : Placing Any ((c ∷ []) ∷ plan_of old) (make_room (plan_of old) c e) (reverse (gone (plan_of old) e) ++ []) =
        eject_keeps p Any (λ r _ _. tt) ((c ∷ []) ∷ plan_of old) (plan_of old) c [] e found (record { number = refl; places = λ x. places_at x; kinds = all_of (plan_of old) [] (λ i _. tt) }) in
        record {
          few = omega (arith, held_number new, held_number old, fewer, d.few);
          places = λ x i. subst (λ (r : Plan). occurs x r ≡ 0) (sym g.plan) (omega (arith, kept.places x, d.places x i, ap one_if (ne_eqb x c (apart x i))));
        }
      where
        apart : (x : ℕ) → p.roads.size ≤ x → x ≡ c → ⊥
        apart x i q = omega arith

        places_at : (x : ℕ) → occurs x (plan_of old) + (one_if (eqb x c) + 0) ≡ one_if (eqb x c) + occurs x (plan_of old)
        places_at x = omega arith

    pub forced : (tape : List ℕ) (counts : Counts) {d t : ℕ} {last : Routes}
        → Becomes new (perturb p tape (record { routes = plan_of new; draws = counts.draws })).routes t last
        → d ≡ (perturb p tape (record { routes = plan_of new; draws = counts.draws })).draws
        → as_turn (Ok (record { steps = counts.steps + 1; draws = d })) (plan_of last) after failures
        ≡ after_eject tape p (plan_of old) counts c (pooled before) failures (eject p (plan_of old) c failures)
    unfolding after_eject
    forced tape counts q ed = rw (leaves, q.routes, ed, g.plan, g.top)

pub stuck : (p : Problem) (c : ℕ) (failures rest tape : List ℕ) (counts : Counts) (plan : Plan) (pool : Stack) {best : Option Ejection}
    → best ≡ eject p plan c failures → best ≡ None
    → as_turn (Err (record { steps = counts.steps + 1; draws = counts.draws })) plan pool failures
    ≡ after_eject tape p plan counts c rest failures (eject p plan c failures)
unfolding after_eject
stuck p c failures rest tape counts plan pool h b = rw (← h, b)

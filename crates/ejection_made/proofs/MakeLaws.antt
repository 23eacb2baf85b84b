-- Laws of specs/Made, each from the facts that the code has where it needs it. Assumes nothing.
use Prim.Native.Nat.{ℕ, ◌+◌, ◌-◌, ◌≤◌, ◌<◌}
use native.Mathlib.Omega.{arith}
use mathlib.Core.Path.{◌≡◌, ap, ◌∙◌}
use mathlib.Core.List.{List, [], ◌∷◌, ◌++◌}
use lib.ListN.{length, get_or}
use borrow.Author.Rules.{rules}
use Rattle.ejection.specs.laws.Edits.{length_erase, get_erase_before}
use Rattle.ejection.specs.plan.Plan.{Plan, Lent, HasPosition, HasStop, split, route, total, put_in, take_out}
use Rattle.ejection.specs.plan.Given.{plan_of, Becomes, keeps_on}
use Rattle.ejection.specs.plan.declared.routes.Routes.{Routes}
use Rattle.ejection.specs.plan.Slices.{stop_within, stop_route, route_within}
use Rattle.ejection.specs.plan.Routes.{length_take_out, route_take_out}
use Rattle.ejection.specs.declared.Ejection.{Ejection}
use Rattle.ejection.specs.Ejected.{Inside, kept_one, kept_two}
use Rattle.ejection_made.specs.Made.{Made, Stack, OnTop, on_top, make_one, make_two, gone_one, gone_two}

-- ---- after a stop has been taken out

-- a route with a stop: one fewer are in use
pub has_one : (ls s : List ℕ) (k i : ℕ) → Lent ls s → HasStop (split ls s) k i → 1 ≤ total ls
has_one ls s k i l h = omega (arith, route_within ls k (stop_route ls s k i h), stop_within ls s l k i h)

module _ {old new : Routes} {k i : ℕ} (h : HasStop (plan_of old) k i) (t : Becomes old (take_out k i (plan_of old)) (total old.lengths.now - 1) new) where
  pub out_room : total new.lengths.now < length new.stops.now
  out_room = omega (arith, t.sum, t.kept.room, old.lent.inside, has_one old.lengths.now old.stops.now k i old.lent h)

  pub out_position : (pos : ℕ) → HasPosition (take_out k i (plan_of old)) k pos → HasPosition (plan_of new) k pos
  out_position pos g = rw t.routes g

  pub out_in : (pos c : ℕ) {last : Routes} → Becomes new (put_in k pos c (plan_of new)) (total new.lengths.now + 1) last
      → Becomes old (put_in k pos c (take_out k i (plan_of old))) (total old.lengths.now) last
  out_in pos c g =
      record {
        routes = g.routes ∙ ap (put_in k pos c) t.routes;
        sum = g.sum ∙ omega (arith, t.sum, has_one old.lengths.now old.stops.now k i old.lent h);
        kept = keeps_on t.kept g.kept;
      }

-- ---- one stop leaves

module _ (routes : Plan) (e : Ejection) (h : Inside routes e) where
  pub first_stop : HasStop routes e.route e.first
  first_stop = record { there = h.there; within = omega (arith, h.in_order, h.within) }

  pub second_stop : HasStop routes e.route e.second
  second_stop = record { there = h.there; within = h.within }

  pub one_position : e.first ≡ e.second → HasPosition (take_out e.route e.first routes) e.route e.pos
  one_position s =
      record {
        there = rw (length_take_out e.route e.first routes) h.there;
        within = rw (route_take_out e.route e.first routes h.there, ← kept_one e.first (route e.route routes)) (rw (← s) at h.position);
      }

module _ {old : Routes} {e : Ejection} (h : Inside (plan_of old) e) where
  pub made_one : {new : Routes} {before after : Stack} {c x : ℕ} → e.first ≡ e.second
      → Becomes old (put_in e.route e.pos c (take_out e.route e.first (plan_of old))) (total old.lengths.now) new
      → x ≡ get_or (route e.route (plan_of old)) e.first 0 → after.items ≡ before.items ++ x ∷ [] → Made old before c e new after
  made_one {new} {before} {after} {c} {x} q g ex p =
      let on : OnTop before x after = on_top p in
      record {
        plan = g.routes ∙ make_one (plan_of old) c e h q;
        sum = omega (arith, g.sum, on.count);
        top = on.stops ∙ rw (gone_one (plan_of old) e q, ex);
        kept = g.kept;
      }

  -- ---- two leave; u is without the second

  module _ {u : Routes} (q : e.first < e.second) (t : Becomes old (take_out e.route e.second (plan_of old)) (total old.lengths.now - 1) u) where
    pub two_stop : HasStop (plan_of u) e.route e.first
    two_stop =
        rw t.routes
        (record {
          there = rw (length_take_out e.route e.second (plan_of old)) h.there;
          within = rw (route_take_out e.route e.second (plan_of old) h.there) (omega (arith, length_erase e.second (route e.route (plan_of old)) h.within, h.within));
        })

    pub two_position : HasPosition (take_out e.route e.first (plan_of u)) e.route e.pos
    two_position =
        let w = take_out e.route e.second (plan_of old) in
        let there : e.route < length w = rw (length_take_out e.route e.second (plan_of old)) h.there in
        rw t.routes
        (record {
          there = rw (length_take_out e.route e.first w) there;
          within = rw (route_take_out e.route e.first w there, route_take_out e.route e.second (plan_of old) h.there, ← kept_two e.first e.second (route e.route (plan_of old)) q h.within) h.position;
        })

    two_first : get_or (route e.route (plan_of u)) e.first 0 ≡ get_or (route e.route (plan_of old)) e.first 0
    two_first =
        rw (t.routes, route_take_out e.route e.second (plan_of old) h.there)
        (get_erase_before e.second (route e.route (plan_of old)) e.first 0 (omega (arith, h.within)) q)

    pub made_two : {new : Routes} {before middle after : Stack} {c x y : ℕ} → y ≡ get_or (route e.route (plan_of old)) e.second 0
        → Becomes u (put_in e.route e.pos c (take_out e.route e.first (plan_of u))) (total u.lengths.now) new
        → x ≡ get_or (route e.route (plan_of u)) e.first 0 → middle.items ≡ before.items ++ x ∷ [] → after.items ≡ middle.items ++ y ∷ [] → Made old before c e new after
    made_two {new} {before} {middle} {after} {c} {x} {y} ey g ex p r =
        let below : OnTop before x middle = on_top p in
        let on : OnTop middle y after = on_top r in
        record {
          plan = g.routes ∙ rw t.routes (make_two (plan_of old) c e h q);
          sum = omega (arith, g.sum, t.sum, below.count, on.count, has_one old.lengths.now old.stops.now e.route e.second old.lent (second_stop (plan_of old) e h));
          top = on.stops ∙ rw (below.stops, gone_two (plan_of old) e q, ey, ex, two_first);
          kept = keeps_on t.kept g.kept;
        }

pub ruleset out_laws = (rules, out_room, out_position, out_in)

pub ruleset made_laws = (rules, first_stop, second_stop, one_position, made_one, two_stop, two_position, made_two)

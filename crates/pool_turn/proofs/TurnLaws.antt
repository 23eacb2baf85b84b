-- Laws of a turn: the stop on top of the pool, and what its place or its going in for others makes of the state. Assumes nothing.
use Prim.Native.Nat.{ℕ, ◌+◌, ◌≤◌, ◌<◌, ◌^◌}
use native.Mathlib.Omega.{arith}
use mathlib.Core.Path.{◌≡◌, refl, sym, ap, subst, ◌∙◌}
use mathlib.Core.Bool.{Bool, true, false, true≢false, false≢true}
use mathlib.Core.List.{List, ◌++◌}
use Rattle.std.specs.Option.{option_to_list}
use Rattle.std.proofs.Common.{Option, None, Some, Ok}
use borrow.Author.Tests.{eq-eqb, leb-true, leb-false}
use lib.ListN.{length, drop, get_or, set, length-set, length-reverse}
use lib.Dec.{eqb, leb}
use Rattle.forced_insertion.specs.laws.Counts.{count, one_if}
use Rattle.forced_insertion.specs.models.Problem.{Problem}
use Rattle.forced_insertion.specs.plan.Plan.{Plan, total, occurs}
use Rattle.forced_insertion.specs.plan.Given.{plan_of, Becomes}
use Rattle.forced_insertion.specs.plan.declared.routes.Routes.{Routes}
use Rattle.forced_insertion.specs.route_cost.declared.Insertion.{Insertion}
use Rattle.forced_insertion.specs.local_search.declared.rounds.Counts.{Counts}
use Rattle.forced_insertion.specs.local_search.Planned.{Planned}
use Rattle.forced_insertion.specs.insertion.Cheapest.{cheapest}
use Rattle.forced_insertion.specs.ejection.Eject.{eject}
use Rattle.forced_insertion.specs.ejection_made.Made.{Stack, OnTop, on_top, pooled}
use Rattle.forced_insertion.specs.ejection_pool.Pool.{State, Turn, after_cheapest, after_eject}
use Rattle.forced_insertion.specs.EjectionPoolPooledLaws.{pooled_planned, raised}
use Rattle.forced_insertion.specs.ejection_pool.Running.{Running, Forcing, state, is_there, put_best, one_more}
use Rattle.forced_insertion.specs.Turned.{as_turn}
use Rattle.forced_insertion.proofs.PoolLaws.{held_number}

-- ---- the stop on top

-- c is popped, and `under` is left
pub off : {under pool : Stack} {o : Option ℕ} {c : ℕ} → pool.items ≡ under.items ++ option_to_list o → o ≡ Some c → OnTop under c pool
off {under} e f = on_top (e ∙ ap (λ (x : Option ℕ). under.items ++ option_to_list x) f)

module _ {p : Problem} {left : ℕ} (routes : Routes) {pool : Stack} {work failures : List ℕ} {counts : Counts}
    (g : Running p left (plan_of routes) (length routes.stops.now) pool work failures counts) where
  -- plan and pool together are all the stops
  pub all_stops : total routes.lengths.now + length pool.items ≡ length routes.stops.now
  all_stops = omega (arith, held_number routes, length-reverse pool.items, g.pooled.all)

  pub planned : Planned p.roads.size (plan_of routes)
  planned = pooled_planned p (length routes.stops.now) left (state (plan_of routes) pool failures counts) (omega (arith, g.few)) g.pooled

  -- c is popped, and `under` is left
  module _ {under : Stack} {c : ℕ} (t : OnTop under c pool) where
    pub top_place : c < p.roads.size
    unfolding count one_if
    top_place = go (leb p.roads.size c) refl
      where
        go : (b : Bool) → leb p.roads.size c ≡ b → c < p.roads.size
        go true e =
            let none : occurs c (plan_of routes) + count c (pooled pool) ≡ 0 = g.pooled.places c (leb-true p.roads.size c e) in
            let some : count c (pooled pool) ≡ one_if (eqb c c) + count c (pooled under) = ap (count c) t.stops in
            absurd (omega (arith, none, some, ap one_if (eq-eqb c c refl)))
        go false e = omega (arith, leb-false p.roads.size c e)

    pub room_left : total routes.lengths.now < length routes.stops.now
    room_left = omega (arith, all_stops, t.count)

    pub top_failures : c < length failures
    top_failures = omega (arith, top_place, g.pooled.sized)

    -- where it has no place: `same` is the plan as it was
    pub turn_forcing : 1 ≤ left → counts.steps + 1 < 2 ^ 64 → {v : Bool} {same : Routes} → v ≡ is_there (cheapest p (plan_of routes) c) → v ≡ false
        → Becomes routes (put_best c (cheapest p (plan_of routes) c) (plan_of routes)) (total routes.lengths.now + one_more v) same
        → Forcing p same under work (set failures c (get_or failures c 0 + 1)) c counts
    turn_forcing k step {v} {same} e f x =
        record {
          planned = subst (Planned p.roads.size) (sym (x.routes ∙ unput (cheapest p (plan_of routes) c) (sym f ∙ e))) planned;
          failing = record {
            cells = length-set failures c (get_or failures c 0 + 1) ∙ g.pooled.sized;
            each = λ i. omega (arith, raised failures c i, g.pooled.counted i);
          };
          place = top_place;
          pool_room = omega (arith, all_stops, g.few, t.count);
          work_room = omega (arith, g.work_room, x.kept.room);
          step = step;
          draws = omega (arith, g.pooled.drawn);
        }
      where
        unput : (o : Option Insertion) → false ≡ is_there o → put_best c o (plan_of routes) ≡ plan_of routes
        unput None f = refl
        unput (Some x) f = absurd (false≢true f)

-- ---- what the turn says

-- of the stop that is popped and of those under it
pub popped : (tape : List ℕ) (p : Problem) (s : State) (routes : Plan) {x : Turn} {c : ℕ} {under pool : Stack} → OnTop under c pool
    → x ≡ after_cheapest tape p s c (pooled under) (cheapest p routes c)
    → x ≡ after_cheapest tape p s (get_or (pooled pool) 0 0) (drop 1 (pooled pool)) (cheapest p routes (get_or (pooled pool) 0 0))
popped tape p s routes t e =
    e ∙ ap (λ (l : List ℕ). after_cheapest tape p s (get_or l 0 0) (drop 1 l) (cheapest p routes (get_or l 0 0))) (sym t.stops)

-- there is a place
pub turn_placed : (tape : List ℕ) (p : Problem) (s : State) (c : ℕ) (under : Stack) {n : ℕ} (o : Option Insertion) {old new : Routes} {v : Bool} → v ≡ is_there o → v ≡ true
    → Becomes old (put_best c o s.routes) n new
    → as_turn (Ok (record { steps = s.counts.steps + 1; draws = s.counts.draws })) (plan_of new) under s.failures ≡ after_cheapest tape p s c (pooled under) o
unfolding after_cheapest
turn_placed tape p s c under None e t x = absurd (false≢true (sym e ∙ t))
turn_placed tape p s c under (Some i) e t x = rw x.routes

-- there is none
pub turn_forced : (tape : List ℕ) (p : Problem) (s : State) (c : ℕ) (rest : List ℕ) {n : ℕ} (o : Option Insertion) {old new : Routes} {v : Bool} {t : Turn} → v ≡ is_there o → v ≡ false
    → Becomes old (put_best c o s.routes) n new
    → t ≡ after_eject tape p (plan_of new) s.counts c rest (set s.failures c (get_or s.failures c 0 + 1)) (eject p (plan_of new) c (set s.failures c (get_or s.failures c 0 + 1)))
    → t ≡ after_cheapest tape p s c rest o
unfolding after_cheapest
turn_forced tape p s c rest None {new = new} {t = t} e f x q = subst (λ (r : Plan). t ≡ after_eject tape p r s.counts c rest (set s.failures c (get_or s.failures c 0 + 1)) (eject p r c (set s.failures c (get_or s.failures c 0 + 1)))) x.routes q
turn_forced tape p s c rest (Some i) e f x q = absurd (true≢false (sym e ∙ f))

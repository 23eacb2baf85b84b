-- eliminate: what a refused call leaves, what an accepted one may rely on and what it answers. Assumes nothing.
use Prim.Native.Nat.{ℕ, ◌≤◌}
use mathlib.Core.Path.{◌≡◌, sym}
use Rattle.std.specs.Prelude.{None, Some}
use mathlib.Core.List.{List}
use native.Mathlib.Omega.{arith}
use lib.ListN.{length}
use Rattle.route_elimination.specs.models.Problem.{Problem}
use Rattle.route_elimination.specs.plan.Plan.{Slices}
use Rattle.route_elimination.specs.local_search.declared.rounds.Reduction.{Reduction}
use Rattle.route_elimination.specs.local_search.Planned.{Planned}
use Rattle.route_elimination.specs.local_search.Search.{Answers}
use Rattle.route_elimination.specs.elimination_moves.Eliminate.{eliminate_routes}
use Rattle.refusals.specs.entry.declared.Work.{Work}
use Rattle.refusals.specs.entry.Table.{refusal}
use Rattle.refusals.specs.entry.Given.{eliminate_inputs}
use Rattle.refusals.specs.EntryAdmittedLaws.{Accepted, eliminate_accepted}
use Rattle.planner.specs.Calls.{refused, answered, Reply, plan_in, public_eliminate}
use Rattle.planner.proofs.CallLaws.{reply_refused, reply_answered}

module _ (p : Problem) (s : Slices) (w : Work) where
  pub eliminate_refused : (n : ℕ) → Some n ≡ refusal (eliminate_inputs p s w) → ◌≡◌ {A = Reply} (record { answer = refused n; slices = s }) (public_eliminate p s w)
  unfolding public_eliminate
  eliminate_refused n e = reply_refused n _ s _ e

  module _ (e : None ≡ refusal (eliminate_inputs p s w)) where
    pub eliminate_plan : Accepted p s
    eliminate_plan = (eliminate_accepted p s w (sym e)).0

    -- over the places of an instance that is the problem
    pub eliminate_planned : (q : Problem) → q ≡ p → Planned q.roads.size (plan_in s)
    eliminate_planned q f = rw f eliminate_plan.planned

    pub eliminate_room : (work : List ℕ) → w.u16_cells ≡ length work → 511 ≤ length work
    eliminate_room work f = omega (arith, (eliminate_accepted p s w (sym e)).1.u16_there, f)

    pub eliminate_answers : (d : Reduction) (t : Slices)
        → Answers (record { plan = eliminate_routes p (plan_in s); counts = record { steps = 0; draws = 0 } }) (length s.lengths)
        d.routes d.counts t.lengths t.stops
        → ◌≡◌ {A = Reply} (record { answer = answered d; slices = t }) (public_eliminate p s w)
    unfolding public_eliminate
    eliminate_answers d t a = reply_answered _ s t _ d e a

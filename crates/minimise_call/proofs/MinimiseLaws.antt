-- minimise: what a refused call leaves, what an accepted one may rely on and what it answers. Assumes nothing.
use Prim.Native.Nat.{ℕ, ◌≤◌, ◌<◌}
use mathlib.Core.Path.{◌≡◌, sym, ap}
use Rattle.std.specs.Prelude.{None, Some}
use mathlib.Core.List.{List}
use native.Mathlib.Omega.{arith}
use lib.ListN.{length}
use lib.Ieee.{Float}
use Rattle.route_minimization.specs.models.Problem.{Admitted, Problem}
use Rattle.route_minimization.specs.plan.Plan.{Slices}
use Rattle.route_minimization.specs.local_search.declared.rounds.Reduction.{Reduction}
use Rattle.route_minimization.specs.local_search.Search.{Answers}
use Rattle.route_minimization.specs.minimization.Minimize.{minimize_routes}
use Rattle.route_minimization.specs.minimization_search.Minimizing.{Searching}
use Rattle.route_minimization.specs.ejection_pool.Running.{allowance}
use Rattle.refusals.specs.entry.declared.Work.{Work}
use Rattle.refusals.specs.entry.Table.{refusal}
use Rattle.refusals.specs.entry.Given.{minimise_inputs}
use Rattle.refusals.specs.EntryAdmittedLaws.{minimise_accepted}
use Rattle.planner.specs.Calls.{refused, answered, Reply, plan_in, public_minimise}
use Rattle.planner.specs.Told.{work_of}
use Rattle.planner.proofs.CallLaws.{reply_refused, reply_answered}

module _ (p : Problem) (s : Slices) (tape : List ℕ) (limit : ℕ) (w : Work) where
  pub minimise_refused : (n clock : ℕ) → Some n ≡ refusal (minimise_inputs p s tape limit w)
      → ◌≡◌ {A = Reply} (record { answer = refused n; slices = s }) (public_minimise p s (allowance limit clock tape) w)
  unfolding public_minimise
  minimise_refused n clock e = reply_refused n _ s _ e

  module _ (e : None ≡ refusal (minimise_inputs p s tape limit w)) where
    pub minimise_admitted : Admitted p
    minimise_admitted = (minimise_accepted p s w tape limit (sym e)).0.admitted

    pub minimise_words : 0 < length tape
    minimise_words = (minimise_accepted p s w tape limit (sym e)).1.words

    pub minimise_searches : Searching p limit s.lengths s.stops
    minimise_searches =
        let a = minimise_accepted p s w tape limit (sym e) in
        record {
          limited = a.1.steps;
          whole = a.0.sum;
          few = a.0.few;
          routes_few = a.0.routes;
          planned = a.0.planned;
        }

    module _ (work : List ℕ) (cells : List Float) (f : w ≡ work_of (length work) (length cells)) where
      pub minimise_times : 512 ≤ length cells
      minimise_times = omega (arith, (minimise_accepted p s w tape limit (sym e)).1.enough.f64_there, ap (λ (x : Work). x.f64_cells) f)

      pub minimise_room : 767 ≤ length work
      minimise_room = omega (arith, (minimise_accepted p s w tape limit (sym e)).1.enough.u16_there, ap (λ (x : Work). x.u16_cells) f)

    pub minimise_answers : (clock : ℕ) (d : Reduction) (t : Slices)
        → Answers (minimize_routes (allowance limit clock tape) p (plan_in s)) (length s.lengths) d.routes d.counts t.lengths t.stops
        → ◌≡◌ {A = Reply} (record { answer = answered d; slices = t }) (public_minimise p s (allowance limit clock tape) w)
    unfolding public_minimise
    minimise_answers clock d t a = reply_answered _ s t _ d e a

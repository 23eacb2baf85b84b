-- Each text has one of two answers: the line of its refusal where it is refused, and a listing where it is not. Assumes nothing.
use Prim.Native.Nat.{ℕ}
use mathlib.Core.Path.{◌≡◌, ap}
use mathlib.Core.List.{List}
use native.Mathlib.Omega.{arith}
use Rattle.std.specs.Prelude.{None, Some}
use lib.ListN.{length, take}
use Rattle.planner.specs.models.Problem.{Problem}
use Rattle.planner.specs.plan.Plan.{Slices, written}
use Rattle.planner.specs.local_search.declared.rounds.Counts.{Counts}
use Rattle.planner.specs.local_search.declared.rounds.Reduction.{Reduction}
use Rattle.planner.specs.ejection_pool.Running.{allowance}
use Rattle.planner.specs.minimization.Minimize.{minimize_routes}
use Rattle.planner.specs.elimination_moves.Eliminate.{eliminate_routes}
use Rattle.planner.specs.entry.Table.{refusal}
use Rattle.planner.specs.entry.Given.{eliminate_inputs}
use Rattle.planner.specs.Calls.{plan_in, reply, public_minimise, public_eliminate}
use Rattle.planner.specs.Run.{minimise, call}
use Rattle.sheet_laws.specs.sheet_text.Text.{Reading, refused, got}
use Rattle.sheet_laws.specs.sheet_format.Form.{Sheet, sheet, given}
use Rattle.sheet_laws.specs.listing.Listing.{refusal_line}
use Rattle.sheet_answers.specs.Printed.{work, eliminated, planned, printed_of, printed}
use Rattle.sheet_answers.specs.Refused.{refusal_of, sheet_refusal, Listed}
use Rattle.sheet_answers.proofs.ListedLaws.{eliminate_follows}

-- ---- a sheet that is refused

planned_refused : (x : Sheet) (n : ℕ) → refusal_of (got x 0) ≡ Some n → planned x ≡ refusal_line n
unfolding planned public_minimise reply
planned_refused x n e = rw e

pub refused_prints : (s : List ℕ) (n : ℕ) → sheet_refusal s ≡ Some n → printed s ≡ refusal_line n
unfolding sheet_refusal printed
refused_prints s n e = go (sheet s 0) e
  where
    go : (r : Reading Sheet) → refusal_of r ≡ Some n → printed_of r ≡ refusal_line n
    go (refused k) f = let h : k ≡ n = cc in ap refusal_line h
    go (got x i) f = planned_refused x n f

-- ---- a sheet that is not

eliminated_lists : (p : Problem) (s : Slices) (counts : Counts) (g : ℕ) → refusal (eliminate_inputs p s work) ≡ None → Listed (eliminated p s counts g)
unfolding eliminated public_eliminate reply
eliminated_lists p s counts g e =
    let x = eliminate_routes p (plan_in s) in
    record {
      problem = p;
      plan = take (length x) (plan_in (written (length s.lengths) x));
      counts = counts;
      given = g;
      lists = rw e;
    }

-- minimise is accepted, and then eliminate is
planned_lists : (x : Sheet) → refusal_of (got x 0) ≡ None → Listed (planned x)
unfolding planned public_minimise reply call
planned_lists x e =
    let a = allowance x.run.limit x.run.clock x.tape in
    let m = minimize_routes a x.problem (plan_in x.plan) in
    let d : Reduction = record { routes = length m.plan; counts = m.counts } in
    let t = written (length x.plan.lengths) m.plan in
    rw e (eliminated_lists x.problem t m.counts (given x) (eliminate_follows x.problem x.plan (minimise a work) d t (rw e)))

pub accepted_lists : (s : List ℕ) → sheet_refusal s ≡ None → Listed (printed s)
unfolding sheet_refusal printed
accepted_lists s e = go (sheet s 0) e
  where
    go : (r : Reading Sheet) → refusal_of r ≡ None → Listed (printed_of r)
    go (refused k) f = let z : ◌≡◌ {A = ℕ} 0 1 = cc in absurd (omega arith)
    go (got x i) f = planned_lists x f

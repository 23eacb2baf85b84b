-- `problem` meets its contract: what the check does not find alone.
use Prim.Native.Nat.{◌≤◌}
use native.Mathlib.Omega.{arith}
use Rattle.sheet_problem.proofs.ProblemLaws.{square_fits, no_vehicle, no_places, no_roads, no_break, problem_got}
use Rattle.sheet_vehicle.specs.SheetTextReadLaws.{handed_as}
use Rattle.sheet_problem.proofs.problem.Goals as goal

pub roads-requires : goal.roads-requires
roads-requires c = let few : c.in_ok-n.n ≤ 64 = c.in_ok-n.ensures.at_most in
    record { n_in_bounds = square_fits _ _ few c.requires.in_bounds; n_in_bounds_2 = square_fits _ _ few c.requires.in_bounds_2 }

pub returns-in_err-van-clause-read : goal.returns-in_err-van-clause-read
returns-in_err-van-clause-read c = handed_as _ _ _ c.from_residual.ensures.1 (no_vehicle c.in_err-van.ensures)

pub returns-in_err-n-clause-read : goal.returns-in_err-n-clause-read
returns-in_err-n-clause-read c = handed_as _ _ _ c.from_residual-in_err-n.ensures.1 (no_places c.in_ok-van.ensures c.in_err-n.ensures.read)

pub returns-in_err-timed-clause-read : goal.returns-in_err-timed-clause-read
returns-in_err-timed-clause-read c = let few : c.in_ok-n.n ≤ 64 = c.in_ok-n.ensures.at_most in
    handed_as _ _ _ c.from_residual-in_err-timed.ensures.1
    (no_roads c.in_ok-van.ensures _ _ (omega (arith, few, c.requires.room.demands, c.in_ok-n.ensures.kept.sizes.demands)) c.in_ok-n.ensures.read c.in_err-timed.ensures.read)

pub returns-in_err-pause-clause-read : goal.returns-in_err-pause-clause-read
returns-in_err-pause-clause-read c = let few : c.in_ok-n.n ≤ 64 = c.in_ok-n.ensures.at_most in
    handed_as _ _ _ c.from_residual-in_err-pause.ensures.1
    (no_break c.in_ok-van.ensures _ _ (omega (arith, few, c.requires.room.demands, c.in_ok-n.ensures.kept.sizes.demands)) c.in_ok-n.ensures.read c.in_ok-timed.ensures.read c.in_err-pause.ensures)

pub returns : goal.returns
returns c = let few : c.in_ok-n.n ≤ 64 = c.in_ok-n.ensures.at_most in record {
  read = problem_got c.in_ok-van.ensures _ _ (omega (arith, few, c.requires.room.demands, c.in_ok-n.ensures.kept.sizes.demands)) c.in_ok-n.ensures.read
      c.roads.new.distance_cells c.roads.new.time_cells c.in_ok-timed.timed c.in_ok-timed.ensures.read c.in_ok-pause.ensures c.with_rest-vehicle.ensures;
  problem_within = (few, c.in_ok-timed.ensures.at_most);
  kept = c.in_ok-n.ensures.kept;
}

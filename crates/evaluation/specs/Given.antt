-- The problem that a fleet or an instance is of. Assumes nothing.
use Rattle.std.specs.Prelude.{[]}
use Rattle.break_schedule.specs.models.Problem.{Problem, problem_of}
use Rattle.evaluation.specs.declared.fleet.Fleet.{Fleet}
use Rattle.evaluation.specs.declared.instance.Instance.{Instance}

-- without demands, for what reads none
abbrev pub of_fleet : Fleet → Problem
of_fleet f = problem_of [] f.net.places f.net.roads f.vehicle

abbrev pub of_instance : Instance → Problem
of_instance g = problem_of g.demand.cells.now g.fleet.net.places g.fleet.net.roads g.fleet.vehicle

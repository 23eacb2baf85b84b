-- The problem that the code is lent. Assumes nothing.
use Rattle.models.specs.declared.problem.Problem.{Problem as Lent}
use Rattle.models.specs.Problem.{Problem, problem_of}

-- the lists that stand in its slices, and its vehicle
abbrev pub of_problem : Lent → Problem
of_problem p = problem_of p.demand.now p.places.now p.roads.now p.vehicle

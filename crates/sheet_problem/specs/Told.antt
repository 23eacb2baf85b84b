-- The problem that slices hold. Assumes nothing.
use Rattle.std.specs.Prelude.{◌*◌, List, take, Float}
use Rattle.sheet_vehicle.specs.models.Customer.{customers}
use Rattle.sheet_vehicle.specs.models.Problem.{Problem, matrix}
use Rattle.sheet_roads.specs.sheet_reader.Cells.{Columns}
use Rattle.sheet_problem.specs.declared.Head.{Head}

-- the problem that the slices hold: n places, n rows of distances and so many of times
abbrev pub problem_in : Columns → List Float → List Float → Head → Problem
problem_in c distances times h =
    record {
      demand = take h.n c.demand;
      places = customers (take h.n c.service) (take h.n c.ready) (take h.n c.due) (take h.n c.penalty) (take h.n c.flags);
      roads = matrix h.n (take (h.n * h.n) distances) (take (h.timed * h.timed) times);
      vehicle = h.vehicle;
    }

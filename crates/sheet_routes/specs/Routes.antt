-- How lent slices hold the routes. Assumes nothing.
use Rattle.std.specs.Prelude.{ℕ, List, map, length, take}
use Rattle.sheet_reader.specs.plan.Plan.{Slices}
use Rattle.sheet_routes.specs.declared.routes.PlanSize.{PlanSize}
use Rattle.sheet_reader.specs.sheet_format.Form.{stop_cell}

-- a route as it is held: its length, and its stops
abbrev pub route_cells : List ℕ → ℕ × List ℕ
route_cells route = (length route, map stop_cell route)

-- so many routes, of so many stops in all
abbrev pub plan_in : List ℕ → List ℕ → PlanSize → Slices
plan_in lengths stops p = record { lengths = take p.given lengths; stops = take p.used stops }

-- `vehicle::Vehicle::fixed_cost_in_distance` meets its contract: what the check does not find alone.
use Rattle.float_functions.specs.laws.Picks.{picks}
use Rattle.models.proofs.vehicle.Vehicle.fixed_cost_in_distance.Goals as goal

pub returns-then-self : goal.returns-then-self
returns-then-self c = search picks

pub returns-else-self : goal.returns-else-self
returns-else-self c = search picks

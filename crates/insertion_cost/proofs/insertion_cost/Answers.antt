-- `insertion_cost` meets its contract: what the check does not find alone.
use Rattle.std.proofs.Common.{rules}
use Rattle.local_search.specs.route_cost.Route.{insertion_cost}
use Rattle.insertion_cost.proofs.insertion_cost.Goals as goal

pub returns : goal.returns
unfolding insertion_cost
returns c = search rules

-- `is_cheaper` meets its contract: what the check does not find alone.
use Rattle.pool_cost.proofs.is_cheaper.Goals as goal

pub returns : goal.returns
returns c = rw (c.plan_cost.ensures, c.abs.ensures)

-- `customer::TimeWindow::waiting_time` meets its contract: what the check does not find alone.
use Rattle.float_functions.specs.laws.Picks.{picks}
use Rattle.models.proofs.customer.TimeWindow.waiting_time.Goals as goal

pub returns-then-arrival-self : goal.returns-then-arrival-self
returns-then-arrival-self c = search picks

pub returns-else-arrival-self : goal.returns-else-arrival-self
returns-else-arrival-self c = search picks

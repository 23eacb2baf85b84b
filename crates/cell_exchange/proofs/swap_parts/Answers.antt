-- `swap_parts` meets its contract: what the check does not find alone.
use Rattle.cell_shifts.specs.laws.Exchanges.{swap_parts_copied}
use Rattle.cell_exchange.proofs.swap_parts.Goals as goal

pub returns : goal.returns
returns c = search swap_parts_copied

-- `swap` meets its contract: what the check does not find alone.
use Rattle.std.proofs.Common.{sym, ◌∙◌}
use Rattle.std.proofs.lemmas.List.Edits.{swap_is}
use Rattle.cell_shifts.specs.laws.Exchanges.{swap}
use Rattle.cell_exchange.proofs.swap.Goals as goal

pub returns : goal.returns
unfolding swap
returns c = c.swap.ensures.after ∙ sym (swap_is c.args.stops.now c.args.i c.args.j 0 c.requires.0 c.requires.1)

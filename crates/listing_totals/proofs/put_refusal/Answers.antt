-- `put_refusal` meets its contract: its definition is opened.
use Rattle.listing_numbers.specs.listing.Listing.{refusal_line}
use Rattle.listing_totals.proofs.put_refusal.Goals as goal

pub put_line-requires : goal.put_line-requires
unfolding refusal_line
put_line-requires c = c.requires

pub returns : goal.returns
unfolding refusal_line
returns c = c.put_line.ensures

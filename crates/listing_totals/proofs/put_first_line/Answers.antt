-- `put_first_line` meets its contract: its definition is opened.
use Rattle.listing_numbers.specs.listing.Listing.{first_line}
use Rattle.listing_totals.proofs.put_first_line.Goals as goal

pub put_line-requires : goal.put_line-requires
unfolding first_line
put_line-requires c = c.requires

pub returns : goal.returns
unfolding first_line
returns c = c.put_line.ensures

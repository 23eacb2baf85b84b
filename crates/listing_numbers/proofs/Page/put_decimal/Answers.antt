-- `Page::put_decimal` meets its contract: what the check does not find alone.
use Rattle.listing_numbers.proofs.NumberLaws.{decimal_prints}
use Rattle.listing_numbers.proofs.PageLaws.{room_as, puts_as}
use Rattle.listing_numbers.proofs.Page.put_decimal.Goals as goal

pub put_number-requires : goal.put_number-requires
put_number-requires c = room_as (decimal_prints _ c.ranges.n) c.requires

pub returns : goal.returns
returns c = puts_as (decimal_prints _ c.ranges.n) c.put_number.ensures

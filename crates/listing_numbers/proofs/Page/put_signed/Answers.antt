-- `Page::put_signed` meets its contract: what the check does not find alone.
use Rattle.listing_numbers.proofs.NumberLaws.{signed_prints}
use Rattle.listing_numbers.proofs.PageLaws.{room_as, puts_as}
use Rattle.listing_numbers.proofs.Page.put_signed.Goals as goal

pub put_number-requires : goal.put_number-requires
put_number-requires c = room_as (signed_prints _ c.ranges.v) c.requires

pub returns : goal.returns
returns c = puts_as (signed_prints _ c.ranges.v) c.put_number.ensures

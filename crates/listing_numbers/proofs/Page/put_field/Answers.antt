-- `Page::put_field` meets its contract: what the check does not find alone.
use Rattle.listing_numbers.proofs.PageLaws.{puts_more, puts_last, room_first, room_more}
use Rattle.listing_numbers.proofs.Page.put_field.Goals as goal

pub put_bytes-requires : goal.put_bytes-requires
put_bytes-requires c = room_first _ _ c.requires

pub put_decimal-requires : goal.put_decimal-requires
put_decimal-requires c = room_first _ _ (room_more _ _ c.put_bytes.ensures c.requires)

pub returns : goal.returns
returns c = puts_more _ _ c.put_bytes.ensures (puts_last _ c.put_decimal.ensures)

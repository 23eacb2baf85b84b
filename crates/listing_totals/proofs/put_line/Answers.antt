-- `put_line` meets its contract: what the check does not find alone.
use Rattle.listing_numbers.proofs.PageLaws.{room_first, room_field, room_behind, puts_last, puts_field}
use Rattle.listing_totals.proofs.put_line.Goals as goal

pub put_field-requires : goal.put_field-requires
put_field-requires c = room_field _ _ _ c.requires

pub put_bytes-requires : goal.put_bytes-requires
put_bytes-requires c = room_first _ _ (room_behind _ _ _ c.put_field.ensures c.requires)

pub returns : goal.returns
returns c = puts_field _ _ _ c.put_field.ensures (puts_last _ c.put_bytes.ensures)

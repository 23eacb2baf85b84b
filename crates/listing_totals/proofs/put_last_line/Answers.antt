-- `put_last_line` meets its contract: what the check does not find alone.
use Rattle.listing_numbers.proofs.PageLaws.{room_field, room_behind, puts_field}
use Rattle.listing_numbers.specs.listing.Listing.{last_line}
use Rattle.listing_totals.proofs.put_last_line.Goals as goal

pub put_field-requires : goal.put_field-requires
unfolding last_line
put_field-requires c = room_field _ _ _ c.requires

pub put_field-requires-2 : goal.put_field-requires-2
unfolding last_line
put_field-requires-2 c = room_field _ _ _ (room_behind _ _ _ c.put_field.ensures c.requires)

pub put_field-requires-3 : goal.put_field-requires-3
unfolding last_line
put_field-requires-3 c = room_field _ _ _ (room_behind _ _ _ c.put_field-2.ensures (room_behind _ _ _ c.put_field.ensures c.requires))

pub put_line-requires : goal.put_line-requires
unfolding last_line
put_line-requires c = room_behind _ _ _ c.put_field-3.ensures (room_behind _ _ _ c.put_field-2.ensures (room_behind _ _ _ c.put_field.ensures c.requires))

pub returns : goal.returns
unfolding last_line
returns c = puts_field _ _ _ c.put_field.ensures
    (puts_field _ _ _ c.put_field-2.ensures
    (puts_field _ _ _ c.put_field-3.ensures
    c.put_line.ensures))

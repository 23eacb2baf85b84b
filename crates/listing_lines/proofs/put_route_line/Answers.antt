-- `put_route_line` meets its contract: what the check does not find alone.
use Rattle.listing_numbers.proofs.NumberLaws.{signed_handed}
use Rattle.listing_numbers.proofs.PageLaws.{room_as, puts_as, room_first, room_more, room_field, room_behind, puts_more, puts_last, puts_field}
use Rattle.listing_numbers.specs.listing.Listing.{route_line}
use Rattle.listing_lines.proofs.put_route_line.Goals as goal

pub put_decimal-requires : goal.put_decimal-requires
unfolding route_line
put_decimal-requires c = room_first _ _ c.requires

pub put_bytes-requires : goal.put_bytes-requires
unfolding route_line
put_bytes-requires c = room_first _ _ (room_more _ _ c.put_decimal.ensures c.requires)

pub put_signed-requires : goal.put_signed-requires
unfolding route_line
put_signed-requires c = room_as (signed_handed _ c.ranges.load) (room_first _ _ (room_more _ _ c.put_bytes.ensures (room_more _ _ c.put_decimal.ensures c.requires)))

pub put_field-requires : goal.put_field-requires
unfolding route_line
put_field-requires c = room_field _ _ _
    (room_more _ _ (puts_as (signed_handed _ c.ranges.load) c.put_signed.ensures)
    (room_more _ _ c.put_bytes.ensures
    (room_more _ _ c.put_decimal.ensures c.requires)))

pub put_stops-requires : goal.put_stops-requires
unfolding route_line
put_stops-requires c = room_first _ _
    (room_behind _ _ _ c.put_field.ensures
    (room_more _ _ (puts_as (signed_handed _ c.ranges.load) c.put_signed.ensures)
    (room_more _ _ c.put_bytes.ensures
    (room_more _ _ c.put_decimal.ensures c.requires))))

pub put_bytes-requires-2 : goal.put_bytes-requires-2
unfolding route_line
put_bytes-requires-2 c = room_first _ _
    (room_more _ _ c.put_stops.ensures
    (room_behind _ _ _ c.put_field.ensures
    (room_more _ _ (puts_as (signed_handed _ c.ranges.load) c.put_signed.ensures)
    (room_more _ _ c.put_bytes.ensures
    (room_more _ _ c.put_decimal.ensures c.requires)))))

pub returns : goal.returns
unfolding route_line
returns c = puts_more _ _ c.put_decimal.ensures
    (puts_more _ _ c.put_bytes.ensures
    (puts_more _ _ (puts_as (signed_handed _ c.ranges.load) c.put_signed.ensures)
    (puts_field _ _ _ c.put_field.ensures
    (puts_more _ _ c.put_stops.ensures
    (puts_last _ c.put_bytes-2.ensures)))))

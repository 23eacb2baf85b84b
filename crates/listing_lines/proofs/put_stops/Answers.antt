-- `put_stops` meets its contract: what the check does not find alone.
use Rattle.listing_numbers.proofs.PageLaws.{putting_start, putting_end, putting_room, putting_more}
use Rattle.listing_numbers.specs.ListingWriteLaws.{stops_more, stops_end}
use Rattle.listing_numbers.specs.listing.Listing.{stop}
use Rattle.listing_lines.proofs.put_stops.Goals as goal

pub loop-c-init : goal.loop-c-init
loop-c-init c = putting_start _ _

pub put_field-requires : goal.put_field-requires
unfolding stop
put_field-requires c = putting_room c.loop-c.invariant _ _ (stops_more _ c.loop-c.c-index c.loop-c-test.true) c.requires

pub loop-c-preserved : goal.loop-c-preserved
unfolding stop
loop-c-preserved c = putting_more c.loop-c.invariant _ _ (stops_more _ c.loop-c.c-index c.loop-c-test.true) c.put_field.ensures

pub returns : goal.returns
returns c = putting_end c.loop-c.invariant (stops_end _ c.loop-c.c-index c.loop-c-test.false)

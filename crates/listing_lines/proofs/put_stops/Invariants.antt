-- What the loop of `put_stops` keeps.
use lib.ListN.{drop}
use Rattle.listing_numbers.specs.listing.Listing.{stops as Listing·stops}
use Rattle.listing_numbers.proofs.PageLaws.{Putting}
use Rattle.listing_lines.proofs.put_stops.Given as goal

abbrev pub invariant-loop-c : goal.invariant-loop-c
invariant-loop-c l = Putting l.initial.page (Listing·stops l.stops) l.page (Listing·stops (drop l.c-index l.stops))

-- A listing as a whole, as it is put on a page: the first line, the lines of the routes, the last line. Assumes nothing.
use Prim.Native.Nat.{ℕ}
use mathlib.Core.Path.{◌≡◌, sym}
use mathlib.Core.List.{List, [], ◌∷◌}
use lib.ListN.{length}
use Rattle.listing_totals.specs.models.Problem.{Problem}
use Rattle.listing_totals.specs.plan.Plan.{Plan, split}
use Rattle.listing_totals.specs.plan.Slices.{length_split}
use Rattle.listing_totals.specs.local_search.declared.rounds.Counts.{Counts}
use Rattle.listing_totals.specs.listing.Decimal.{text}
use Rattle.listing_totals.specs.listing.Listing.{route_lines, first_line, last_line, listing}
use Rattle.listing_totals.specs.listing_numbers.Put.{HasRoom, Puts}
use Rattle.listing_totals.specs.listing_numbers.declared.Page.{Page}
use Rattle.listing_totals.specs.ListingNumbersPageLaws.{room_as, puts_as, room_first, room_more, puts_more, puts_last}

module _ (p : Problem) (lengths stops : List ℕ) (counts : Counts) (given : ℕ) where
  abbrev plan : Plan
  plan = split lengths stops

  abbrev left : ℕ
  left = length lengths

  listing_is : listing p plan counts given ≡ text (first_line left ∷ route_lines p 1 plan ∷ last_line counts.steps counts.draws given left ∷ [])
  unfolding listing
  listing_is = rw (length_split lengths stops)

  module _ {first : Page} where
    module _ (r : HasRoom first (listing p plan counts given)) where
      whole_room : HasRoom first (text (first_line left ∷ route_lines p 1 plan ∷ last_line counts.steps counts.draws given left ∷ []))
      whole_room = room_as (sym listing_is) r

      pub first_room : HasRoom first (first_line left)
      first_room = room_first _ _ whole_room

      module _ {next : Page} (w : Puts first (first_line left) next) where
        pub routes_room : HasRoom next (route_lines p 1 plan)
        routes_room = room_first _ _ (room_more _ _ w whole_room)

        pub last_room : {then : Page} → Puts next (route_lines p 1 plan) then → HasRoom then (last_line counts.steps counts.draws given left)
        last_room x = room_first _ _ (room_more _ _ x (room_more _ _ w whole_room))

    pub listing_put : {next then last : Page} → Puts first (first_line left) next → Puts next (route_lines p 1 plan) then
        → Puts then (last_line counts.steps counts.draws given left) last → Puts first (listing p plan counts given) last
    listing_put x y z = puts_as (sym listing_is) (puts_more _ _ x (puts_more _ _ y (puts_last _ z)))

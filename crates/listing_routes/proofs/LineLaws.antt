-- The lines of routes, as they are put on a page. Assumes nothing.
use Prim.Native.Nat.{ℕ, suc, ◌+◌}
use mathlib.Core.Path.{◌≡◌, refl}
use mathlib.Core.List.{List, [], ◌∷◌, ◌++◌, append-nil}
use native.Mathlib.Numerals.{add-one}
use Rattle.listing_lines.specs.laws.All.{All, all_head, all_drop}
use Rattle.listing_lines.specs.models.Problem.{Problem, Stops}
use Rattle.listing_lines.specs.plan.Plan.{Plan}
use Rattle.listing_lines.specs.listing.Decimal.{text}
use Rattle.listing_lines.specs.listing.Listing.{Prints, line_of, route_lines}
use Rattle.listing_lines.specs.listing_numbers.Put.{HasRoom, Puts}
use Rattle.listing_lines.specs.ListingNumbersPageLaws.{Putting, putting_start, putting_end, putting_room, putting_more}
use Rattle.listing_lines.specs.listing_numbers.declared.Page.{Page}

-- ---- the routes of a plan, one after the other

module _ (p : Problem) (number : ℕ) where
  lines_cons : (r : List ℕ) (rs : Plan) → route_lines p number (r ∷ rs) ≡ line_of p number r ++ route_lines p (number + 1) rs
  unfolding route_lines text
  lines_cons r rs = rw (add-one number, append-nil (route_lines p (suc number) rs))

  no_lines : route_lines p number [] ≡ []
  unfolding route_lines
  no_lines = refl

-- the lines of the routes of a plan that are on the page by now: these routes are left, and the next one is number k from 0
pub record Lining (p : Problem) (plan : Plan) (first page : Page) (left : Plan) (k : ℕ) : Type 0 where
  pub stops : All (Stops p.roads.size) left
  pub prints : All (Prints p) left
  pub room : HasRoom first (route_lines p 1 plan)
  pub lines : Putting first (route_lines p 1 plan) page (route_lines p (k + 1) left)

module _ (p : Problem) (first : Page) (plan : Plan) where
  pub lining_start : {left : Plan} {k : ℕ} → left ≡ plan → k ≡ 0 → All (Stops p.roads.size) plan → All (Prints p) plan → HasRoom first (route_lines p 1 plan)
      → Lining p plan first first left k
  lining_start e z s q r = rw (e, z) (record { stops = s; prints = q; room = r; lines = putting_start first (route_lines p 1 plan) })

module _ (p : Problem) (plan : Plan) (first page : Page) {left : Plan} {k : ℕ} (g : Lining p plan first page left k) where
  module _ (route : List ℕ) (more : Plan) (e : left ≡ route ∷ more) where
    pub lining_stops : Stops p.roads.size route
    lining_stops = all_head (rw e at g.stops)

    pub lining_prints : Prints p route
    lining_prints = all_head (rw e at g.prints)

    lines : route_lines p (k + 1) left ≡ line_of p (k + 1) route ++ route_lines p (k + 1 + 1) more
    lines = rw e (lines_cons p (k + 1) route more)

    pub lining_room : (i : ℕ) → i ≡ k → HasRoom page (line_of p (i + 1) route)
    lining_room i m = rw m (putting_room g.lines _ _ lines g.room)

    pub lining_more : (i j : ℕ) (after : Page) → i ≡ k → j ≡ k + 1 → Puts page (line_of p (i + 1) route) after → Lining p plan first after more j
    lining_more i j after m n w =
        rw n
        (record {
          stops = all_drop 1 (rw e at g.stops);
          prints = all_drop 1 (rw e at g.prints);
          room = g.room;
          lines = putting_more g.lines _ _ lines (rw m at w);
        })

  pub lining_end : left ≡ [] → Puts first (route_lines p 1 plan) page
  lining_end e = putting_end g.lines (rw e (no_lines p (k + 1)))

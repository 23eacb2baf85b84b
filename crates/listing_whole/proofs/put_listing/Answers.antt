-- `put_listing` meets its contract: what the check does not find alone.
use borrow.Author.Rules.{rules}
use Rattle.listing_totals.specs.models.Lent.{of_problem}
use Rattle.listing_totals.specs.ListingNumbersPageLaws.{page_gone}
use Rattle.listing_whole.proofs.WholeLaws.{first_room, routes_room, last_room, listing_put}
use Rattle.listing_whole.proofs.put_listing.Goals as goal

pub put_first_line-requires : goal.put_first_line-requires
put_first_line-requires c = first_room (of_problem c.args.problem.now) _ _ c.args.counts _ (record { room = c.requires.room })

pub put_routes-requires-clause-room : goal.put_routes-requires-clause-room
put_routes-requires-clause-room c = routes_room _ _ _ c.args.counts _ (record { room = c.requires.room }) c.put_first_line.ensures

pub put_last_line-requires : goal.put_last_line-requires
put_last_line-requires c = last_room _ _ _ c.args.counts _ (record { room = c.requires.room }) c.put_first_line.ensures c.put_routes.ensures

pub returns : goal.returns
returns c = page_gone _ (listing_put _ _ _ c.args.counts _ c.put_first_line.ensures c.put_routes.ensures c.put_last_line.ensures) (search rules)

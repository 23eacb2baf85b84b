-- `put_refused` meets its contract: what the check does not find alone.
use mathlib.Core.Path.{ap}
use borrow.Author.Rules.{rules}
use Rattle.listing_numbers.proofs.PageLaws.{page_gone, room_as, puts_as}
use Rattle.listing_numbers.specs.listing.Listing.{refusal_line}
use Rattle.listing_totals.proofs.put_refused.Goals as goal

pub put_refusal-requires : goal.put_refusal-requires
put_refusal-requires c = room_as (ap refusal_line c.number.ensures) (record { room = c.requires })

pub returns : goal.returns
returns c = page_gone _ (puts_as (ap refusal_line c.number.ensures) c.put_refusal.ensures) (search rules)

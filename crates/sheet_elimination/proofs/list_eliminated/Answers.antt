-- `list_eliminated` meets its contract: what the check does not find alone.
use native.Mathlib.Omega.{arith}
use mathlib.Core.Path.{sym}
use lib.Seq.{length-take-le}
use Rattle.sheet_answers.proofs.ListedLaws.{refusal_room, written_as, eliminate_refuses, eliminate_lists, eliminate_asks, routes_there, routes_lent}
use Rattle.sheet_elimination.proofs.list_eliminated.Goals as goal

pub returns-in-Ok : goal.returns-in-Ok
returns-in-Ok c = written_as c.put_listing.ensures (eliminate_lists _ _ _ _ _ _ _ c.eliminate-e.ensures.reply c.requires.in_bounds.3 c.requires.in_bounds.4 _ _ _ c.in-Ok.is)

pub put_refused-requires : goal.put_refused-requires
put_refused-requires c = refusal_room _ _ c.requires.in_bounds.0

pub slice_bounds-routes-end : goal.slice_bounds-routes-end
slice_bounds-routes-end c = routes_there _ _ _ _ _ _ _ c.eliminate-e.ensures.reply c.requires.in_bounds.3 c.requires.in_bounds.4 c.args.counts c.args.given _ c.in-Ok.is c.eliminate-e.auto.lengths

pub slice_bounds-routes-end-in-Ok : goal.slice_bounds-routes-end-in-Ok
slice_bounds-routes-end-in-Ok c = sym (length-take-le _ _ (routes_there _ _ _ _ _ _ _ c.eliminate-e.ensures.reply c.requires.in_bounds.3 c.requires.in_bounds.4 c.args.counts c.args.given _ c.in-Ok.is c.eliminate-e.auto.lengths))

pub invariant_of-routes : goal.invariant_of-routes
invariant_of-routes c = record { lent = routes_lent _ _ _ _ _ _ _ c.eliminate-e.ensures.reply c.requires.in_bounds.3 c.requires.in_bounds.4 c.args.counts c.args.given _ c.in-Ok.is (omega (arith, c.eliminate-e.auto.stops, c.requires.in_bounds.2)) }

pub put_listing-requires : goal.put_listing-requires
put_listing-requires c = let w = eliminate_asks _ _ _ _ _ _ _ c.eliminate-e.ensures.reply c.requires.in_bounds.3 c.requires.in_bounds.4 _ _ _ c.in-Ok.is c.requires.short (omega (arith, c.eliminate-e.auto.lengths, c.requires.in_bounds.1)) (omega (arith, c.eliminate-e.auto.stops, c.requires.in_bounds.2)) _ c.requires.in_bounds.0 in record { room = w.0; few = w.1.0.0; cells = w.1.0.1; depot_in = w.1.1.0.0; demands = w.1.1.0.1; stops = w.1.1.1.0; prints = w.1.1.1.1 }

pub returns-in-Err : goal.returns-in-Err
returns-in-Err c = written_as c.put_refused.ensures (eliminate_refuses _ _ _ _ _ _ _ c.eliminate-e.ensures.reply c.requires.in_bounds.3 c.requires.in_bounds.4 _ _ _ c.in-Err.is)

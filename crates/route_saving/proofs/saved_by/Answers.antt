-- `saved_by` meets its contract: what the check does not find alone.
use Rattle.route_saving.proofs.SavedLaws.{part_stops, saved_is}
use Rattle.route_saving.proofs.saved_by.Goals as goal

pub route-requires : goal.route-requires
route-requires c = c.requires.there

pub worth-own-requires : goal.worth-own-requires
worth-own-requires c = part_stops c.args.routes _ c.route.ensures c.requires.stops

pub returns : goal.returns
returns c = saved_is c.args.routes _ c.route.ensures _ _ _ c.worth-own.ensures c.fixed_cost_in_distance.ensures

-- `route` meets its contract: what the check does not find alone.
use Rattle.plan.specs.Slices.{length_split}
use Rattle.plan.proofs.routes.Routes.route.Goals as goal

pub route-requires : goal.route-requires
route-requires c =
    let r = c.each.result in
    let s = c.args.self.now in
    rw (← length_split r.lengths.now r.stops.now, c.each.ensures, length_split s.lengths.now s.stops.now) c.requires

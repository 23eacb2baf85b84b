-- `offset` meets its contract: what the check does not find alone.
use Rattle.std.proofs.Common.{arith}
use Rattle.plan.specs.Slices.{offset_within}
use Rattle.plan.proofs.routes.offset.Goals as goal

pub total-requires : goal.total-requires
total-requires c = omega (arith, offset_within c.args.lengths.now c.args.k, c.requires.few)

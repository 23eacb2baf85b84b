-- `attempt` meets its contract: what the check does not find alone.
use Prim.Native.Nat.{◌≤◌}
use native.Mathlib.Omega.{arith}
use lib.ListN.{length}
use Rattle.route_attempt.proofs.AttemptLaws.{restored_lengths, restored_stops, lent_again, left_as_were}
use Rattle.route_attempt.proofs.attempt.Goals as goal

pub invariant_of-routes : goal.invariant_of-routes
invariant_of-routes c =
    let old = c.args.routes.now in
    let k = c.try_without-tried.ensures.kept in
    let room : 767 ≤ length c.keep.new.work = omega (arith, c.keep.auto.work, c.args.bench.now.room) in
    record {
      lent = lent_again old
          (restored_lengths old.lengths.now old.stops.now c.keep.new.work c.requires.few c.requires.attempting.few room _ _ _ k.count k.room _ c.keep.ensures _ c.restore.ensures.lengths)
          (restored_stops old.lengths.now old.stops.now c.keep.new.work c.requires.few c.requires.attempting.few room _ _ _ k.count k.room _ c.keep.ensures _ c.restore.ensures.stops);
    }

pub returns-then-is_err-clause-held : goal.returns-then-is_err-clause-held
returns-then-is_err-clause-held c =
    let old = c.args.routes.now in
    let k = c.try_without-tried.ensures.kept in
    let room : 767 ≤ length c.keep.new.work = omega (arith, c.keep.auto.work, c.args.bench.now.room) in
    left_as_were _ _ _ c.is_err.ensures.value c.if-is_err.true
    (restored_lengths old.lengths.now old.stops.now c.keep.new.work c.requires.few c.requires.attempting.few room _ _ _ k.count k.room _ c.keep.ensures _ c.restore.ensures.lengths)
    (restored_stops old.lengths.now old.stops.now c.keep.new.work c.requires.few c.requires.attempting.few room _ _ _ k.count k.room _ c.keep.ensures _ c.restore.ensures.stops)

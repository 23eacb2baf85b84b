-- `minimise` meets its contract: what the check does not find alone.
use native.Mathlib.Omega.{arith}
use Rattle.std.proofs.lemmas.Result.{err_from_is_err_and}
use Rattle.minimise_call.proofs.MinimiseLaws.{minimise_refused, minimise_admitted, minimise_times, minimise_room, minimise_words, minimise_searches, minimise_answers}
use Rattle.minimise_call.proofs.minimise.Goals as goal

pub returns-in_err-minimise_refusal-clause-reply : goal.returns-in_err-minimise_refusal-clause-reply
returns-in_err-minimise_refusal-clause-reply c = let p = err_from_is_err_and c.from_residual.result c.from_residual.ensures.1 in rw (p.1, p.2) (minimise_refused _ _ _ _ _ _ _ (rw c.of.ensures at c.in_err-minimise_refusal.ensures))

pub split_at_mut-departures-requires : goal.split_at_mut-departures-requires
split_at_mut-departures-requires c = omega (arith, minimise_times _ _ _ _ _ c.in_ok-minimise_refusal.ensures c.args.work.now c.args.cells.now c.of.ensures)

pub invariant_of-times : goal.invariant_of-times
invariant_of-times c = record {
  departures_room = omega (arith, c.split_at_mut-departures.ensures.front_len);
  latest_room = omega (arith, c.split_at_mut-departures.ensures.back_len, minimise_times _ _ _ _ _ c.in_ok-minimise_refusal.ensures c.args.work.now c.args.cells.now c.of.ensures);
}

pub invariant_of-bench : goal.invariant_of-bench
invariant_of-bench c = record { room = minimise_room _ _ _ _ _ c.in_ok-minimise_refusal.ensures c.args.work.now c.args.cells.now c.of.ensures }

pub invariant_of-given : goal.invariant_of-given
invariant_of-given c = record { words = minimise_words _ _ _ _ _ c.in_ok-minimise_refusal.ensures }

pub instance-made-requires : goal.instance-made-requires
instance-made-requires c = minimise_admitted _ _ _ _ _ c.in_ok-minimise_refusal.ensures

pub minimize_routes-done-requires : goal.minimize_routes-done-requires
minimize_routes-done-requires c = rw c.instance-made.ensures (minimise_searches _ _ _ _ _ c.in_ok-minimise_refusal.ensures)

pub returns-clause-reply : goal.returns-clause-reply
returns-clause-reply c = minimise_answers _ _ _ _ _ (rw c.of.ensures at c.in_ok-minimise_refusal.ensures) _ _ _ (rw c.instance-made.ensures at c.minimize_routes-done.ensures)

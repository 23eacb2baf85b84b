-- What the loop of `to_pool` keeps.
use Rattle.std.proofs.Common.{◌≡◌, take}
use Rattle.route_pool.proofs.to_pool.Given as goal

abbrev pub invariant-loop-c : goal.invariant-loop-c
invariant-loop-c g l = l.pool.items ≡ take l.c-index l.route

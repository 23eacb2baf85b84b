-- `place` meets its contract: what the check does not find alone.
use Rattle.reinsertion.proofs.OverLaws.{place_none, place_cut, place_found}
use Rattle.reinsertion.proofs.place.Goals as goal

pub returns-in_err-found : goal.returns-in_err-found
returns-in_err-found c = rw c.from_residual.ensures (place_none _ _ _ _ _ _ c.look_over.ensures c.in_err-found.was)

pub returns-then-stop-found : goal.returns-then-stop-found
returns-then-stop-found c = place_cut _ _ _ _ _ _ c.look_over.ensures _ c.in_ok-found.was c.if-stop-found.true

pub returns-else-stop-found : goal.returns-else-stop-found
returns-else-stop-found c = place_found _ _ _ _ _ _ c.look_over.ensures _ c.in_ok-found.was c.if-stop-found.false

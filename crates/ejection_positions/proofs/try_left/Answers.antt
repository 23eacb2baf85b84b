-- `try_left` meets its contract: what the check does not find alone.
use Rattle.ejection_positions.proofs.PositionLaws.{kept_laws}
use Rattle.ejection_positions.proofs.try_left.Goals as goal
use Rattle.ejection_positions.proofs.try_left.Goals.{then-not-has_room-via-then-not-has_room, then-not-has_room-via-else-not-has_room+then-none_outranks}

pub returns-then-prepare : goal.returns-then-prepare
returns-then-prepare c = search kept_laws

pub returns-then-not-has_room : goal.returns-then-not-has_room
returns-then-not-has_room c = elim c.then-not-has_room.branch [ then-not-has_room-via-then-not-has_room w ↦ search kept_laws | then-not-has_room-via-else-not-has_room+then-none_outranks w ↦ search kept_laws ]

pub returns-else-prepare : goal.returns-else-prepare
returns-else-prepare c = search kept_laws

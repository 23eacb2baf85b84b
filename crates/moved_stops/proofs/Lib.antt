-- What the functions' proofs lean on.
-- the stops moved one after the other
pub mod MovingLaws

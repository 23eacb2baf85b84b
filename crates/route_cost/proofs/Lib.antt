-- What the functions' proofs lean on.
-- a loop over the routes of a plan
pub mod VisitLaws
-- the distance of a route
pub mod DistanceLaws

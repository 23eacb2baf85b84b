-- Laws of the place for a stop, as the code meets them.
-- the positions of one route
pub mod PlaceLaws
-- the routes of a plan
pub mod OverLaws

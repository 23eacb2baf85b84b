-- Laws of the definitions of the times along a route, as the code meets them.
-- departures, forward
pub mod DepartureLaws
-- latest arrivals, backward
pub mod LatestLaws

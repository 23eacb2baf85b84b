-- numbers in decimal
pub mod Decimal
-- the lines of a listing
pub mod Listing
-- a text in a slice
pub mod Written
-- crates below, passed on to those above
pub use Rattle.local_search.specs.laws as laws
pub use Rattle.local_search.specs.models as models
pub use Rattle.local_search.specs.plan as plan
pub use Rattle.local_search.specs.route_cost as route_cost
pub use Rattle.local_search.specs.route_load as route_load
pub use Rattle.local_search.specs as local_search
-- and their laws
pub use Rattle.local_search.specs.RouteCostVisitLaws as RouteCostVisitLaws
pub use Rattle.local_search.specs.RouteLoadFeasibleLaws as RouteLoadFeasibleLaws

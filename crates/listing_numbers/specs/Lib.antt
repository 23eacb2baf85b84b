-- a text on a page
pub mod Put
-- crates below, passed on to those above
pub use Rattle.listing.specs.laws as laws
pub use Rattle.listing.specs.models as models
pub use Rattle.listing.specs.plan as plan
pub use Rattle.listing.specs.route_cost as route_cost
pub use Rattle.listing.specs.route_load as route_load
pub use Rattle.listing.specs.local_search as local_search
pub use Rattle.listing.specs as listing
-- and their laws
pub use Rattle.listing.specs.RouteCostVisitLaws as RouteCostVisitLaws
pub use Rattle.listing.specs.RouteLoadFeasibleLaws as RouteLoadFeasibleLaws
pub use Rattle.listing.proofs.WriteLaws as ListingWriteLaws

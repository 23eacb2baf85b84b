-- What the contracts of this crate cite.
-- crates below, passed on to those above
pub use Rattle.listing_numbers.specs.laws as laws
pub use Rattle.listing_numbers.specs.models as models
pub use Rattle.listing_numbers.specs.plan as plan
pub use Rattle.listing_numbers.specs.route_cost as route_cost
pub use Rattle.listing_numbers.specs.route_load as route_load
pub use Rattle.listing_numbers.specs.listing as listing
pub use Rattle.listing_numbers.specs as listing_numbers
-- and their laws
pub use Rattle.listing_numbers.specs.RouteCostVisitLaws as RouteCostVisitLaws
pub use Rattle.listing_numbers.specs.RouteLoadFeasibleLaws as RouteLoadFeasibleLaws
pub use Rattle.listing_numbers.proofs.PageLaws as ListingNumbersPageLaws

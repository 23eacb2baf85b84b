-- What the contracts of this crate cite.
-- crates below, passed on to those above
pub use Rattle.listing_numbers.specs.laws as laws
pub use Rattle.listing_numbers.specs.models as models
pub use Rattle.listing_numbers.specs.plan as plan
pub use Rattle.listing_numbers.specs.local_search as local_search
pub use Rattle.listing_numbers.specs.listing as listing
pub use Rattle.listing_numbers.specs as listing_numbers
-- and their laws
pub use Rattle.listing_numbers.proofs.PageLaws as ListingNumbersPageLaws

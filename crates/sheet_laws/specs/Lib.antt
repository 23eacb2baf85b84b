-- distances of nine digits
pub mod Short
-- crates below, passed on to those above
pub use Rattle.entry.specs.route_cost as route_cost
pub use Rattle.sheet_format.specs.sheet_text as sheet_text
pub use Rattle.sheet_format.specs as sheet_format
pub use Rattle.listing.specs as listing
-- and their laws
pub use Rattle.sheet_format.specs.SheetTextReadLaws as SheetTextReadLaws
pub use Rattle.listing.proofs.BoundLaws as ListingBoundLaws

-- What the contracts of this crate cite.
-- crates below, passed on to those above
pub use Rattle.listing_totals.specs.listing as listing

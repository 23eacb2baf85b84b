-- what a sheet prints
pub mod Printed
-- what a sheet is refused with
pub mod Refused
-- the sample's listing, and refusals, by computation
pub mod Sample
-- crates below, passed on to those above
pub use Rattle.sheet_laws.specs as sheet_laws
-- and their laws
pub use Rattle.sheet_laws.proofs.Read as SheetLawsRead

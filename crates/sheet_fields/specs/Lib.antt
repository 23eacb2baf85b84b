-- What the contracts of this crate cite.
-- crates below, passed on to those above
pub use Rattle.sheet_text.specs as sheet_text
-- and their laws
pub use Rattle.sheet_text.proofs.ReadLaws as SheetTextReadLaws

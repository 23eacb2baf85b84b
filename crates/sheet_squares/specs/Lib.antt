-- What the contracts of this crate cite.
-- crates below, passed on to those above
pub use Rattle.sheet_reader.specs.models as models
pub use Rattle.sheet_reader.specs.plan as plan
pub use Rattle.sheet_reader.specs.sheet_text as sheet_text
pub use Rattle.sheet_reader.specs.sheet_format as sheet_format
pub use Rattle.sheet_reader.specs as sheet_reader
-- and their laws
pub use Rattle.sheet_reader.specs.SheetTextReadLaws as SheetTextReadLaws

-- crates below, passed on to those above
pub use Rattle.sheet_format.specs.models as models
pub use Rattle.sheet_format.specs.sheet_text as sheet_text
pub use Rattle.sheet_format.specs as sheet_format
-- and their laws
pub use Rattle.sheet_format.specs.SheetTextReadLaws as SheetTextReadLaws

-- the form of a sheet
pub mod Form
-- every definition of the form, opened at once
pub mod Opened
-- the sample sheet
pub mod Sample
-- sheets that are refused, and some that are not
pub mod Faults
-- crates below, passed on to those above
pub use Rattle.models.specs.laws as laws
pub use Rattle.models.specs.floats as floats
pub use Rattle.models.specs as models
pub use Rattle.plan.specs as plan
pub use Rattle.sheet_fields.specs.sheet_text as sheet_text
pub use Rattle.sheet_headings.specs as sheet_headings
-- and their laws
pub use Rattle.sheet_fields.specs.SheetTextReadLaws as SheetTextReadLaws

-- how lent slices hold what is read
pub mod Cells
-- crates below, passed on to those above
pub use Rattle.sheet_cells.specs.floats as floats
pub use Rattle.sheet_cells.specs.models as models
pub use Rattle.sheet_cells.specs.plan as plan
pub use Rattle.sheet_cells.specs.sheet_text as sheet_text
pub use Rattle.sheet_cells.specs.sheet_format as sheet_format
-- and their laws
pub use Rattle.sheet_cells.specs.SheetTextReadLaws as SheetTextReadLaws

-- Laws of this crate's definitions.
-- a list of calls
pub mod ListLaws
-- a sheet
pub mod SheetLaws

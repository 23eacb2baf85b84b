-- the last three sections, one after the other
pub mod RequestLaws
-- the problem of a sheet and its request, one after the other
pub mod SheetLaws

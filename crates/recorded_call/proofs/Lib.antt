-- Laws of one call of a list.
-- how it is recorded
pub mod RecordLaws

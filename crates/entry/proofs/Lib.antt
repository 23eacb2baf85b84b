-- Laws of the table.
-- row 6: what a list of stops that passes has
pub mod StopsLaws
-- the entry checks come first, and what they say
pub mod EntryLaws
-- what a call that is not refused may rely on
pub mod AdmittedLaws

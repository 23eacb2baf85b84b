-- Laws of the counts.
-- calls counted one after the other
pub mod CountedLaws
-- the lines of kinds
pub mod PrintedLaws

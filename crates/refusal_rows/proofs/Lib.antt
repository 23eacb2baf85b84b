-- Laws of the rows as the code finds them.
-- the rows in groups
pub mod GroupLaws

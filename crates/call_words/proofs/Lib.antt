-- Laws of lists of calls as words.
-- the form of a list of calls
pub mod FormLaws

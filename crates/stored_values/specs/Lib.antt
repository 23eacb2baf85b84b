-- What stored numbers stand for.
-- the kinds of calls
pub mod Kinds

-- a text in the slice that is lent
pub mod OutputLaws

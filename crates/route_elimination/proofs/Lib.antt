-- The search, as the code meets it.
pub mod EliminateLaws

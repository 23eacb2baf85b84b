-- What the function's proof leans on.
-- the pool at the start
pub mod StartLaws

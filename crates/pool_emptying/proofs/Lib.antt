-- What the function's proof leans on.
-- the failures at the start
pub mod StartLaws

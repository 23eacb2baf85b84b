-- What the function's proof leans on.
-- a turn of the pool
pub mod TurnLaws

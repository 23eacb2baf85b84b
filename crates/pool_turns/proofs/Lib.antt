-- What the function's proof leans on.
-- the loop that empties the pool
pub mod LoopLaws

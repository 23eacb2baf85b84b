-- What the function's proof leans on.
-- the test of the cost
pub mod CostLaws

-- What the function's proof leans on.
-- the plan that is left, the test of its cost
pub mod JudgedLaws

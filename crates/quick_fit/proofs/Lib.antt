-- Laws of the definitions of `quick_test`, as the code meets them.
-- the test of one position
pub mod FitLaws

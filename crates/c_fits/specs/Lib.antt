-- What fits in the C interface.
-- 100 and 101
pub mod Misfit

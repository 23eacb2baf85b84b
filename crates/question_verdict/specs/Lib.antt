-- What is asked.
-- what a stored question asks
pub mod Asked

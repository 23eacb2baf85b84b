-- What is asked and compared.
-- what a stored call asks that changes a plan, and whether its answer is the stored one
pub mod Changed

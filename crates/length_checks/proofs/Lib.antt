-- What the functions' proofs lean on.
-- the sum of the lengths fits
pub mod SumLaws

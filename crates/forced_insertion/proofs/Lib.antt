-- What the functions' proofs lean on.
-- a stop placed, and one that goes in for others
pub mod PoolLaws

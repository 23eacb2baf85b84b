-- What the functions' proofs lean on.
-- what is recorded
pub mod PutLaws

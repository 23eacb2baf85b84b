-- What the functions' proofs lean on.
-- the kept part
pub mod EjectLaws

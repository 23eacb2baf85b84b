-- Laws that this crate's proofs cite, and those that say what a valid problem gives.
-- what a valid problem gives
pub mod ValidLaws

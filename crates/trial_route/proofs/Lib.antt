-- Laws that this crate's proofs cite.
-- a route cut in two, and the walks over its parts
pub mod TrialLaws

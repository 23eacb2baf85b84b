-- Laws that this crate's proofs cite.
-- the cost of a plan
pub mod CostLaws

-- Laws that this crate's proofs cite.
-- a route taken out, and empty routes dropped
pub mod RemovalLaws

-- Laws that this crate's proofs cite.
-- a route that goes, and its stops that are moved
pub mod EmptiedLaws

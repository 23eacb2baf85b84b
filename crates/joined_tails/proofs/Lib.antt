-- Laws that this crate's proofs cite.
-- a front and a tail joined
pub mod JoinLaws

-- What the functions' proofs lean on.
-- loads, room, and the check where it is needed
pub mod FeasibleLaws

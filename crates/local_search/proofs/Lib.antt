-- What the functions' proofs lean on.
-- for callers: from the parts that a function reads to the whole problem
pub mod ReadLaws
-- the rounds of attempts
pub mod RoundLaws
-- the start of a round, and its next attempt
pub mod NextLaws
-- the loops of a search
pub mod SearchLaws

-- What the functions' proofs lean on.
-- the questions about a route's worth
pub mod WorthLaws

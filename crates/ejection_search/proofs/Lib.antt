-- What the functions' proofs lean on.
-- a route's length; one stop, or only then two
pub mod SearchLaws

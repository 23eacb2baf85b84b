-- What the functions' proofs lean on.
-- one route, as the code meets it
pub mod RouteLaws

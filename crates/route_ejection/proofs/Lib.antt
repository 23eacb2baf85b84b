-- What the functions' proofs lean on.
-- who leaves a route
pub mod LeaveLaws

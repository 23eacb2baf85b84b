-- What the functions' proofs lean on.
-- the walk and the way home, as the code meets them
pub mod DriveLaws

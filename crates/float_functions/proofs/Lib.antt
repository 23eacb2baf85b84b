-- What the kit's functions and the branches of the code return.
pub mod Branches

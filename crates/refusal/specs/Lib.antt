-- What the contracts of this crate cite.
-- the number of a refusal's row
pub mod Number

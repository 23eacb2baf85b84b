-- What the functions' proofs lean on.
-- the stops so far, marked
pub mod MarkLaws
-- what `all` keeps as it goes over the stops
pub mod RunLaws

-- Laws of this crate's definitions, as the code meets them.
-- departures and latest arrivals in work cells
pub mod PrepareLaws

-- Laws of this crate's definitions, as the code meets them.
-- the latest arrival at a stop, as the code of `latest_times` meets it
pub mod ArrivalLaws

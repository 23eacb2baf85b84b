-- Laws of this crate's definitions. A file uses only files above it in this list.
-- the stops of a route, and a loop over them
pub mod StopLaws
-- specs/Schedule, as the code of `schedule` meets it
pub mod ScheduleLaws

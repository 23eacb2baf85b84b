-- Theorems about sheets, one subject a file.
-- a stop's cell is judged as the stop
pub mod Stops
-- the distance of a route is a whole number
pub mod Distances
-- the distances of a sheet that was read
pub mod Read

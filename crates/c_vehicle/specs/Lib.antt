-- The vehicle of the C interface.
-- a vehicle of numbers
pub mod VehicleOf

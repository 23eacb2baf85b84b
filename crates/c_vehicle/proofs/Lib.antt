-- Laws of this crate's definitions.
-- the vehicle
pub mod VehicleLaws

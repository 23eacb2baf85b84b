-- What the contracts of this crate cite. A file uses only files above it in this list.
-- customer.rs: a time window
pub mod TimeWindow
-- customer.rs: the places' records
pub mod Customer
-- vehicle.rs: the break, the fixed cost in distance
pub mod Vehicle
-- evaluation/mod.rs: what a vehicle allows one route
pub mod RouteLimits
-- a problem as a whole
pub mod Problem
-- the problem that the code is lent
pub mod Lent
-- what makes a problem valid: rows 1 to 4 of the refusal table
pub mod Valid
-- crates below, passed on to those above
pub use Rattle.float_functions.specs.laws as laws
pub use Rattle.float_functions.specs.floats as floats

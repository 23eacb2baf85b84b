-- The attempt at a route, as the code makes it.
-- what it leaves
pub mod Leaves
-- crates below, passed on to those above
pub use Rattle.route_without.specs.pool_attempt as pool_attempt
pub use Rattle.route_without.specs as route_without

-- What a plan is, in Plan, and laws about it in the other files, one subject a file. A file uses only files above it in this list.
pub mod Plan
-- the definitions computed on small plans
pub mod Examples
-- the two slices and the list of routes are one
pub mod Slices
-- one route changed, replaced or taken out
pub mod Routes
-- empty routes dropped, and the slices that a call leaves
pub mod Dropped
-- a plan kept in work cells
pub mod Saved
-- the plan that lent routes are of
pub mod Given
-- a loop over the routes
pub mod Left
-- crates below, passed on to those above
pub use Rattle.cell_exchange.specs.laws as laws
pub use Rattle.cell_exchange.specs.Parts as Parts

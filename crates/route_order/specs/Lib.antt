-- The order in which the searches take the routes. A file uses only files above it in this list.
-- the routes by length, and the pick that comes next
pub mod Order
-- the definitions computed on four routes
pub mod Examples
-- repeated picks are the order
pub mod Following
-- crates below, passed on to those above
pub use Rattle.plan.specs.laws as laws
pub use Rattle.plan.specs as plan
-- and their laws
pub use Rattle.plan.proofs.Exchanges as PlanExchanges

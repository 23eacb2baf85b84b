-- What the contracts of this crate cite.
-- crates below, passed on to those above
pub use Rattle.route_exchange.specs.laws as laws
pub use Rattle.route_exchange.specs.plan as plan
pub use Rattle.route_exchange.specs.PlanRoutes as PlanRoutes

-- What the contracts of this crate cite.
-- crates below, passed on to those above
pub use Rattle.exchanged_stops.specs.laws as laws
pub use Rattle.exchanged_stops.specs.plan as plan
-- and their laws
pub use Rattle.exchanged_stops.specs.PlanExchanges as PlanExchanges
pub use Rattle.exchanged_stops.specs.PlanPlanLaws as PlanPlanLaws
pub use Rattle.exchanged_stops.specs.PlanRoutes as PlanRoutes

-- What the contracts of this crate cite.
-- crates below, passed on to those above
pub use Rattle.plan.specs.laws as laws
pub use Rattle.plan.specs as plan
-- and their laws
pub use Rattle.plan.proofs.Exchanges as PlanExchanges
pub use Rattle.plan.proofs.PlanLaws as PlanPlanLaws
-- and its struct
pub use Rattle.plan.specs.declared.routes.Routes as PlanRoutes

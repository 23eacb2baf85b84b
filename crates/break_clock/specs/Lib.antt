-- What the contracts of this crate cite.
-- evaluation/mod.rs: the distance that a route is priced at
pub mod RouteEval
-- schedule.rs: the break's clock, a route with a break
pub mod Schedule
-- crates below, passed on to those above
pub use Rattle.labels.specs.laws as laws
pub use Rattle.labels.specs.floats as floats
pub use Rattle.labels.specs.models as models
pub use Rattle.labels.specs.distance as distance
pub use Rattle.labels.specs as labels
-- and their laws
pub use Rattle.labels.specs.ModelsValidLaws as ModelsValidLaws

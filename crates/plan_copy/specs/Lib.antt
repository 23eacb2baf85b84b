-- What the contracts of this crate cite.
-- crates below, passed on to those above
pub use Rattle.route_removal.specs.plan as plan

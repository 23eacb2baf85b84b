-- Laws that this crate's proofs cite.
-- where a route lies, and a stop put in or taken out
pub mod PlanLaws
-- the routes, one after the other
pub mod EachLaws
-- two stops or two tails of two routes exchanged
pub mod Exchanges

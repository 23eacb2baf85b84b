-- Laws that this crate's proofs cite.
-- the check of a route of the plan, and two stops exchanged
pub mod ExchangeLaws

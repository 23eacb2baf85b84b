-- Laws that this crate's proof cites.
-- two stops exchanged
pub mod ExchangeLaws

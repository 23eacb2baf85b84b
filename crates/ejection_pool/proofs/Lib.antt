-- Laws of the pool's definitions: they rest on what must-fail edits turn.
-- the clock needs no counter
pub mod Clock
-- every way that a turn can go, and a rule of proof for the attempt
pub mod Turns
-- what the pool keeps
pub mod Placing
-- a turn keeps what the code asks of a state
pub mod PooledLaws

-- Laws that rest on a definition which a must-fail edit turns: where they stood in specs/, the prover could not read the edited text.
-- the order of the bit patterns: Rust's `total_cmp`
pub mod Bits

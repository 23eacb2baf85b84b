-- What is counted, of the crates below, passed on to those above.
pub use Rattle.tally.specs as tally
-- and its laws
pub use Rattle.tally.proofs.CountedLaws as TallyCountedLaws

-- What the contracts of this crate cite.
-- crates below, passed on to those above
pub use Rattle.sheet_whole.specs.sheet_reader as sheet_reader
pub use Rattle.sheet_calls.specs.listing as listing
pub use Rattle.sheet_calls.specs.sheet_answers as sheet_answers
-- and their laws
pub use Rattle.sheet_calls.specs.SheetLawsRead as SheetLawsRead
pub use Rattle.sheet_calls.specs.SheetAnswersFits as SheetAnswersFits
pub use Rattle.sheet_calls.specs.SheetAnswersListedLaws as SheetAnswersListedLaws

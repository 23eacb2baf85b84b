-- What the contracts of this crate cite.
-- crates below, passed on to those above
pub use Rattle.listing_whole.specs.listing as listing
pub use Rattle.sheet_answers.specs.sheet_laws as sheet_laws
pub use Rattle.sheet_answers.specs as sheet_answers
-- and their laws
pub use Rattle.sheet_answers.specs.SheetLawsRead as SheetLawsRead
pub use Rattle.sheet_answers.proofs.Fits as SheetAnswersFits
pub use Rattle.sheet_answers.proofs.ListedLaws as SheetAnswersListedLaws

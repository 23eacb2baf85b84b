-- What the contracts of this crate cite.
-- crates below, passed on to those above
pub use Rattle.sheet_elimination.specs.listing as listing
pub use Rattle.sheet_elimination.specs.sheet_laws as sheet_laws
pub use Rattle.sheet_elimination.specs.sheet_answers as sheet_answers
-- and their laws
pub use Rattle.sheet_elimination.specs.SheetLawsRead as SheetLawsRead
pub use Rattle.sheet_elimination.specs.SheetAnswersFits as SheetAnswersFits
pub use Rattle.sheet_elimination.specs.SheetAnswersListedLaws as SheetAnswersListedLaws

-- What the contracts of this crate cite.
-- crates below, passed on to those above
pub use Rattle.sheet_parts.specs.listing as listing
pub use Rattle.sheet_parts.specs.sheet_answers as sheet_answers
-- and their laws
pub use Rattle.sheet_parts.specs.SheetAnswersFits as SheetAnswersFits

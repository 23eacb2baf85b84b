-- The laws that the readers of this crate lean on, by one name of the crate's own.
use Rattle.sheet_fields.specs.SheetTextReadLaws.{reads}

pub ruleset readers = (reads)

-- The laws that the readers of this crate lean on, by one name of the crate's own.
use Rattle.sheet_format.specs.SheetTextReadLaws.{reads, seen_reads}

pub ruleset readers = (reads, seen_reads)

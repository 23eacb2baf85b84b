-- numbers as they print
pub mod NumberLaws
-- texts that are put on a page piece by piece
pub mod PageLaws

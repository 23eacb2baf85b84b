-- What the function's proof leans on.
-- the slices saved, restored and left
pub mod AttemptLaws

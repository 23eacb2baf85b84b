-- What the function's proof leans on.
-- what is saved
pub mod SavedLaws

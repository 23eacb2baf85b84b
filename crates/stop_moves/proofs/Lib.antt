-- What the function's proof leans on.
-- one stop moved
pub mod MoveLaws

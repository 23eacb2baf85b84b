-- What the function's proof leans on.
-- what a call asks for, and the parts that it is lent
pub mod CalledLaws

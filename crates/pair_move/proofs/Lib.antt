-- What the function's proof leans on.
-- two routes, either of which may be empty
pub mod PairLaws

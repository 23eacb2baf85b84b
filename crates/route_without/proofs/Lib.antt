-- What the function's proof leans on.
-- the plan without the route
pub mod WithoutLaws

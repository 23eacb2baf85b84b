-- Laws of the definitions of what a route is worth.
-- the whole route and its cost, as the code meets them
pub mod EvalLaws

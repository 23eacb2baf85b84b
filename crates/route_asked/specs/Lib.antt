-- What is asked of a route.
-- what a stored question about a route asks
pub mod RouteAsked

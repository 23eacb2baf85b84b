-- routes in their slices
pub mod RouteLaws

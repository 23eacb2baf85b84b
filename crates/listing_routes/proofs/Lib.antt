-- the lines of routes
pub mod LineLaws

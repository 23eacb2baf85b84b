-- how lent slices hold routes
pub mod Routes

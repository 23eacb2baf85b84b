-- Route elimination. A file uses only files above it in this list.
-- the attempt to move each stop of a route, and the search
pub mod Eliminate
-- the stops that are moved, the largest demand first
pub mod Largest
-- what an attempt and the search keep
pub mod Eliminated
-- every definition, opened for theorems by computation
pub mod Opened
-- the definitions computed on small plans
pub mod Examples

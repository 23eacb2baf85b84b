-- The random moves after an ejection. A file uses only files above it in this list.
-- the draws and the moves
pub mod Perturb
-- parts of a move, a definition for each smaller function
pub mod Parts
-- what a move changes, and how much a perturbation draws
pub mod Moves
-- every definition, opened for theorems by computation
pub mod Opened
-- moves computed on a small plan
pub mod Examples
-- crates below, passed on to those above
pub use Rattle.ejection_search.specs.models as models
pub use Rattle.ejection_search.specs.evaluation as evaluation
pub use Rattle.ejection_search.specs.route_load as route_load
pub use Rattle.ejection_search.specs.local_search as local_search

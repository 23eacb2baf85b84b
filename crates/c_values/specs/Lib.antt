-- The values of the C interface.
-- what a function returns and writes
pub mod Said
-- crates below, passed on to those above
pub use Rattle.c_fits.specs as c_fits

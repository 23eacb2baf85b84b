-- Laws of this crate's definitions. A file uses only files above it in this list.
-- specs/Check, as the code of `check` and of `trial_route` meets it
pub mod CheckLaws

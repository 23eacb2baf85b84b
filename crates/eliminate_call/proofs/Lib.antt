-- Laws of eliminate.
-- refused and answered calls
pub mod EliminateLaws

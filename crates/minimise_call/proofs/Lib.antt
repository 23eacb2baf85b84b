-- Laws of minimise.
-- refused and answered calls
pub mod MinimiseLaws

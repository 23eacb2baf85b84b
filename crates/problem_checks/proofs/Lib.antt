-- Laws of the checks of a problem as the code makes them; the definitions are in models, Valid.
-- row 2
pub mod AmountLaws

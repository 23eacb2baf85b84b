-- Theorems about the definitions of `evaluation`.
-- the evaluation answers where the check says yes; where no check is needed every route passes it
pub mod Agreement

-- What the functions' proofs lean on.
-- the ejection made on the plan and on the pool
pub mod MakeLaws

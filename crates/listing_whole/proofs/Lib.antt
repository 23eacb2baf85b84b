-- a listing as a whole
pub mod WholeLaws

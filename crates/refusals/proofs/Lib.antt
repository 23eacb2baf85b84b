-- Laws of the refusals as the code finds them.
-- the refusals of the calls
pub mod RefusalLaws

-- the laws that the readers lean on
pub mod Readers

-- The C interface; what a function returns and writes is in c_values.
-- a list of calls
pub mod Lists
-- a sheet
pub mod Sheets

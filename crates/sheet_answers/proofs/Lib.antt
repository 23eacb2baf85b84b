-- no text prints more than 6,000 bytes
pub mod Fits
-- the two calls of a sheet, and what is listed
pub mod ListedLaws
-- each text is refused or listed
pub mod Answers

-- What the readers of tokens and words lean on.
-- what was read, and what is read behind it
pub mod ReadLaws
-- digits and words
pub mod TextLaws

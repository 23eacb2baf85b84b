-- The shared laws, one subject a file. A file uses only files above it in this list.
-- a `cond` whose test is known: the ruleset `picks`
pub mod Picks
-- a property of every element
pub mod All
-- parts of lists, and parts put back
pub mod Lists
-- one element put in or taken out
pub mod Edits
-- two elements or two parts exchanged
pub mod Exchanges
-- how often a number occurs
pub mod Counts
-- the elements that pass a test
pub mod Keeps
-- a list whose front is being overwritten
pub mod Overwrite
-- counted loops and folds, and a loop over a list by its index
pub mod Loops
-- a stable sort by repeated picks of the first smallest
pub mod Sorts
-- the first in sorted order that passes a test, by one pass over the list
pub mod Firsts
-- searches over a list that end at the first hit
pub mod Searches
-- a loop over numbers that ends at the first that fails its test
pub mod Passed
-- walks over stops that end at the first stop that cannot be served
pub mod Walks
-- cells of a square matrix
pub mod Matrix
-- sums of signed integers that fit their width
pub mod Ints

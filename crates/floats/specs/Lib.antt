-- The vocabulary and the laws of binary64. A file uses only files above it in this list.
-- What callers want is stated as `lt x y ≡ true`, as a branch of the code hands its test over; `T (lt x y)`, as in
-- `lib.Ieee`, is for the proofs here, and `passed` and `is_true` go from one to the other.
-- `T (fits binary64 x)`, that x is an f64: of a parameter, its function's proof has it in `c .. .good`; of a sum,
-- `lib.Ieee.Fits` has it as `add-fits`, and so of the other operations; `Upto` and `Within` hold it as `held`.
-- operators, constants, `is_finite`, `max`, `min`, `abs`, `is_sign_negative`, `total_less`
pub mod Binary64
-- `lt`, `le`, `eq` over all values, as tests and as equations
pub mod Order
-- a value is written in one way, and rounding leaves it as it is
pub mod Exact
-- changes of sign
pub mod Sign
-- numbers with the sign clear: each operation as one rounding; zeros
pub mod Plain
-- `max`, `min`, `abs`, `is_finite`, NaNs and infinities
pub mod Functions
-- sums and differences of either sign keep the order
pub mod Monotone
-- what is below x - y is below x: the test that asks for a gain
pub mod Gain
-- bounds of n units of 2 ^ k, kept by sums, differences, products and quotients
pub mod Upto
-- the same for values of either sign
pub mod Within
-- the sign of x - y
pub mod Difference
-- sums of lists
pub mod Sums
-- whole numbers up to 2 ^ 53
pub mod Whole
-- the code's literals, and terms that compute
pub mod Literals
-- amounts: floats with the sign clear up to 1e12, their sums and quotients
pub mod Inputs
-- crates below, passed on to those above
pub use Rattle.laws.specs as laws

-- For the floats of a problem, once the tests at the door have passed: an amount has its sign bit clear and is at most
-- 1e12. Sums, products and quotients of amounts are then numbers, with their bounds as `Upto`. Assumes nothing.
use Rattle.std.specs.Prelude.{◌≡◌, ◌^◌, ◌≤◌, true, false, List, T, length, Float}
use Rattle.std.proofs.Math.Path.{refl}
use Rattle.std.proofs.Common.{sym, subst, true≢false, lit≤, lit<}
use Rattle.std.proofs.lemmas.Bool.{false≢true}
use Rattle.std.specs.Float.{nan, inf, fin, binary64}
use Rattle.std.specs.Float.Ieee.{lt, le, fits, of_bits}
use Rattle.floats.specs.Binary64.{◌⊕◌, ◌⊘◌, 0f, 1e-6, 1e12, is_finite, is_sign_negative}
use Rattle.floats.specs.Order.{passed, le_of_lt_false, lt_false_of_le}
use Rattle.floats.specs.Plain.{plain}
use Rattle.floats.specs.Functions.{finite_not_nan}
use Rattle.floats.specs.Upto.{Upto, Atleast, upto_le, upto_as, upto_test, upto_finite, upto_not_nan, upto_add}
use Rattle.floats.specs.Upto.{upto_div, atleast_le}
use Rattle.floats.specs.Sums.{AllUpto, sum_from, upto_sum_zero}
use Rattle.floats.specs.Literals.{1e12_is}

-- a float with its sign bit clear, at most 1e12
abbrev pub Amount : Float → Type 0
Amount x = Upto 0 (10 ^ 12) x

pub 1e12_amount : Amount 1e12
unfolding of_bits fits
1e12_amount = record { clear = tt; held = tt; most = lit≤ tt }

-- ---- the tests that an amount passes, and that make one

clear_below : (x : Float) → is_sign_negative x ≡ false → le x 1e12 ≡ true → T (plain x)
unfolding is_sign_negative le of_bits
clear_below nan s h = absurd (false≢true h)
clear_below (inf true) s h = absurd (true≢false s)
clear_below (inf false) s h = absurd (false≢true h)
clear_below (fin true m e) s h = absurd (true≢false s)
clear_below (fin false m e) s h = tt

-- by two tests: a NaN and +∞ fail the second
pub amount_of : (x : Float) → fits binary64 x ≡ true → is_sign_negative x ≡ false → le x 1e12 ≡ true → Amount x
amount_of x p s h = upto_le x (clear_below x s h) (passed (fits binary64 x) p) h 1e12_amount

-- by the tests for a value that is not finite, has its sign bit set or is above 1e12
pub amount_of_tests : (x : Float) → fits binary64 x ≡ true → is_finite x ≡ true → is_sign_negative x ≡ false
    → lt 1e12 x ≡ false → Amount x
amount_of_tests x p f s h =
    amount_of x p s (le_of_lt_false 1e12 x (upto_not_nan 1e12_amount) (finite_not_nan x f) h)

module _ {x : Float} (u : Amount x) where
  pub amount_finite : is_finite x ≡ true
  amount_finite = upto_finite u

  pub amount_sign : is_sign_negative x ≡ false
  amount_sign = go x u.clear
    where
      go : (y : Float) → T (plain y) → is_sign_negative y ≡ false
      go nan p = absurd p
      go (inf s) p = absurd p
      go (fin true m e) p = absurd p
      go (fin false m e) p = unfold is_sign_negative in refl

  pub amount_le : le x 1e12 ≡ true
  amount_le = subst (λ (z : Float). le x z ≡ true) (sym 1e12_is) (upto_test u (lit≤ tt) (lit≤ tt))

  pub amount_not_above : lt 1e12 x ≡ false
  amount_not_above = lt_false_of_le x 1e12 amount_le

-- ---- an amount over a rate of 1e-6 at least

-- 1e-6 is a little less than 1 / 1,000,000 as an f64, and more than 1 / 1,000,001.
pub 1e-6_atleast : Atleast 1 1000001 1e-6
unfolding of_bits
1e-6_atleast = record { clear = tt; least = lit≤ tt }

-- It is at most 1.1e18.
pub amount_over_rate : {fixed : Float} (rate : Float) → Amount fixed → T (plain rate) → le 1e-6 rate ≡ true
    → Upto 10 1074218750000000 (fixed ⊘ rate)
amount_over_rate rate u p h =
    upto_div 10 1074218750000000 u (atleast_le rate 1e-6_atleast p h) (lit< tt) (lit≤ tt) (lit≤ tt) (lit≤ tt)

-- ---- sums, in units of 2 ^ 50, about 1.1e15

-- up to 1,000 amounts, as the legs of a route
pub amounts_sum : {legs : List Float} → AllUpto 0 (10 ^ 12) legs → length legs ≤ 1000 → Upto 50 1 (sum_from 0f legs)
amounts_sum us h = upto_as 50 1 (upto_sum_zero 1000 us h (lit≤ tt) (lit≤ tt)) (lit≤ tt)

-- such a sum and an amount over a rate, as a route's distance and fixed cost
pub priced_sum : {distance fixed : Float} → Upto 50 1 distance → Upto 10 1074218750000000 fixed
    → Upto 50 978 (distance ⊕ fixed)
priced_sum u v = upto_add u (upto_as 50 977 v (lit≤ tt)) (lit≤ tt) (lit≤ tt)

-- up to 600 of these, as a plan's cost
pub cost_sum : {routes : List Float} → AllUpto 50 978 routes → length routes ≤ 600
    → Upto 50 586800 (sum_from 0f routes)
cost_sum us h = upto_sum_zero 600 us h (lit≤ tt) (lit≤ tt)

-- For whoever calls `max`, `min`, `abs` and `is_finite`, or tests for a NaN: what each is on numbers, on infinities and
-- at a NaN. Assumes nothing.
use Rattle.std.specs.Prelude.{◌≡◌, ℕ, ◌+◌, ◌-◌, ◌*◌, Bool, cond, ◌&&◌, T, ltb}
use Rattle.std.proofs.Math.Path.{refl}
use Rattle.std.proofs.Common.{sym, ap, ◌∙◌, subst, true≢false}
use Rattle.std.proofs.Math.Bool.{true, false}
use Rattle.std.specs.Bool.{beq}
use Rattle.std.proofs.lemmas.Bool.{false≢true}
use Rattle.std.proofs.Math.Dec.{not_T}
use lib.Ieee.{Float, nan, inf, fin, binary64, up, down, round, sum, neg, add, sub, lt, le, ne, fits, is_nan, of_bits}
use Rattle.std.specs.Float.Ieee.Bits.{is_true, is_false}
use Rattle.std.specs.Float.Ieee.Compare.{differs_from_itself, nan_differs}
use Rattle.std.specs.Float.Ieee.Scale.{finite}
use Rattle.floats.specs.Binary64.{◌⊕◌, ◌⊖◌, 0f, +∞, -∞, is_finite, max, min, abs}
use Rattle.floats.specs.Order.{plus_zero, passed, negated, le_self, le_left, le_right, le_of_lt_true}
use Rattle.floats.specs.Order.{le_of_lt_false}
use Rattle.floats.specs.Sign.{fits_sign, clear_not_below, round_not_nan}
use Rattle.floats.specs.Plain.{plain}

-- ---- a NaN

self_test : (x : Float) → ne x x ≡ is_nan x
unfolding is_nan
self_test nan = nan_differs
self_test (inf s) =
    is_false (ne (inf s) (inf s))
    (not_T (ne (inf s) (inf s)) (λ h. true≢false (sym (ap is_nan (differs_from_itself (inf s) h)))))
self_test (fin s m e) =
    let x = fin s m e in
    is_false (ne x x) (not_T (ne x x) (λ h. true≢false (sym (ap is_nan (differs_from_itself x h)))))

-- The test `x != x` tells a NaN.
pub nan_tested : (x : Float) (t : Bool) → ne x x ≡ t → is_nan x ≡ t
nan_tested x t e = sym (self_test x) ∙ e

-- ---- `is_finite`: it is `finite` of `lib.Ieee.Scale`, as a test of the code

-- from the code's test
pub finite_of : (x : Float) → is_finite x ≡ true → T (finite x)
unfolding is_finite
finite_of nan h = absurd (false≢true h)
finite_of (inf s) h = absurd (false≢true h)
finite_of (fin s m e) h = tt

-- .. and back
pub is_finite_of : (x : Float) → T (finite x) → is_finite x ≡ true
unfolding is_finite
is_finite_of nan h = absurd h
is_finite_of (inf s) h = absurd h
is_finite_of (fin s m e) h = refl

pub finite_not_nan : (x : Float) → is_finite x ≡ true → is_nan x ≡ false
unfolding is_finite is_nan
finite_not_nan nan h = absurd (false≢true h)
finite_not_nan (inf s) h = refl
finite_not_nan (fin s m e) h = refl

-- ---- only a NaN makes a sum or a difference with a number a NaN

sum_not_nan : (s : Bool) (a : ℕ) (t : Bool) (b c : ℕ) → is_nan (sum binary64 s a t b c) ≡ false
unfolding sum
sum_not_nan s a t b c = go (beq s t) (ltb a b)
  where
    go : (u v : Bool) → is_nan (cond u (round binary64 s (a + b) c)
        (cond v (round binary64 t (b - a) c) (round binary64 (s && ltb b a) (a - b) c))) ≡ false
    go true v = round_not_nan binary64 s (a + b) c
    go false true = round_not_nan binary64 t (b - a) c
    go false false = round_not_nan binary64 (s && ltb b a) (a - b) c

pub add_not_nan : (x y : Float) → is_finite x ≡ true → is_nan y ≡ false → is_nan (x ⊕ y) ≡ false
unfolding add is_finite is_nan
add_not_nan nan y p q = absurd (false≢true p)
add_not_nan (inf s) y p q = absurd (false≢true p)
add_not_nan (fin s m e) nan p q = absurd (true≢false q)
add_not_nan (fin s m e) (inf t) p q = refl
add_not_nan (fin s m e) (fin t n d) p q = sum_not_nan s (m * up e * down d) t (n * up d * down e) (down e * down d)

pub sub_not_nan : (x y : Float) → is_finite x ≡ true → is_nan y ≡ false → is_nan (x ⊖ y) ≡ false
unfolding sub
sub_not_nan x y p q = add_not_nan x (neg y) p (neg_number y q)
  where
    neg_number : (z : Float) → is_nan z ≡ false → is_nan (neg z) ≡ false
    neg_number nan n = n
    neg_number (inf s) n = unfold neg is_nan in refl
    neg_number (fin s m e) n = unfold neg is_nan in refl

-- ---- the infinities are the ends of the order

pub le_top : (x : Float) → is_nan x ≡ false → le x +∞ ≡ true
unfolding is_nan le
le_top nan h = absurd (true≢false h)
le_top (inf true) h = refl
le_top (inf false) h = refl
le_top (fin s m e) h = refl

pub bottom_le : (x : Float) → is_nan x ≡ false → le -∞ x ≡ true
unfolding is_nan le
bottom_le nan h = absurd (true≢false h)
bottom_le (inf true) h = refl
bottom_le (inf false) h = refl
bottom_le (fin s m e) h = refl

-- ---- `max` and `min` are one of the two

one_of : (P : Float → Type 0) (a b : Float) (s t : Bool) → P a → P b → P (cond s a (cond t a b))
one_of P a b true t p q = p
one_of P a b false true p q = p
one_of P a b false false p q = q

module _ (a b : Float) where
  -- the first where it is the larger, the second where it is not and is no NaN
  pub max_first : lt b a ≡ true → max a b ≡ a
  unfolding max
  max_first h = rw h

  pub max_second : lt b a ≡ false → is_nan b ≡ false → max a b ≡ b
  unfolding max
  max_second h n = rw (h, n)

  -- the first where it is the smaller, the second where it is not and is no NaN
  pub min_first : lt a b ≡ true → min a b ≡ a
  unfolding min
  min_first h = rw h

  pub min_second : lt a b ≡ false → is_nan b ≡ false → min a b ≡ b
  unfolding min
  min_second h n = rw (h, n)

  -- What holds of both holds of their `max` and of their `min`.
  pub max_keeps : (P : Float → Type 0) → P a → P b → P (max a b)
  unfolding max
  max_keeps P p q = one_of P a b (lt b a) (is_nan b) p q

  pub min_keeps : (P : Float → Type 0) → P a → P b → P (min a b)
  unfolding min
  min_keeps P p q = one_of P a b (lt a b) (is_nan b) p q

-- ---- `max` is at least, and `min` at most, each of the two that is no NaN

le_itself : (x : Float) → is_nan x ≡ false → le x x ≡ true
le_itself x n = is_true (le x x) (le_self x (negated (is_nan x) n))

module _ (a b : Float) where
  pub max_ge_left : is_nan a ≡ false → le a (max a b) ≡ true
  unfolding max
  max_ge_left n = go (lt b a) (is_nan b) refl refl
    where
      go : (s t : Bool) → lt b a ≡ s → is_nan b ≡ t → le a (cond s a (cond t a b)) ≡ true
      go true t p q = le_itself a n
      go false true p q = le_itself a n
      go false false p q = le_of_lt_false b a q n p

  pub max_ge_right : is_nan b ≡ false → le b (max a b) ≡ true
  unfolding max
  max_ge_right n = rw n (go (lt b a) refl)
    where
      go : (s : Bool) → lt b a ≡ s → le b (cond s a b) ≡ true
      go true p = le_of_lt_true b a p
      go false p = le_itself b n

  pub min_le_left : is_nan a ≡ false → le (min a b) a ≡ true
  unfolding min
  min_le_left n = go (lt a b) (is_nan b) refl refl
    where
      go : (s t : Bool) → lt a b ≡ s → is_nan b ≡ t → le (cond s a (cond t a b)) a ≡ true
      go true t p q = le_itself a n
      go false true p q = le_itself a n
      go false false p q = le_of_lt_false a b n q p

  pub min_le_right : is_nan b ≡ false → le (min a b) b ≡ true
  unfolding min
  min_le_right n = rw n (go (lt a b) refl)
    where
      go : (s : Bool) → lt a b ≡ s → le (cond s a b) b ≡ true
      go true p = le_of_lt_true a b p
      go false p = le_itself b n

  -- What is at least both is at least their `max`; what is at most both is at most their `min`.
  pub max_le : (c : Float) → le a c ≡ true → le b c ≡ true → le (max a b) c ≡ true
  max_le c p q = max_keeps a b (λ (x : Float). le x c ≡ true) p q

  pub le_min : (c : Float) → le c a ≡ true → le c b ≡ true → le c (min a b) ≡ true
  le_min c p q = min_keeps a b (λ (x : Float). le c x ≡ true) p q

-- ---- `max` and `min` at a NaN: the other is returned, so one that is no NaN is enough for a result that is none

lt_nan : (x : Float) → lt x nan ≡ false
unfolding lt
lt_nan nan = refl
lt_nan (inf s) = refl
lt_nan (fin s m e) = refl

nan_or : (b : Float) → cond (is_nan b) nan b ≡ b
unfolding is_nan
nan_or nan = refl
nan_or (inf s) = refl
nan_or (fin s m e) = refl

pub max_nan_left : (b : Float) → max nan b ≡ b
unfolding max
max_nan_left b = rw (lt_nan b, nan_or b)

pub max_nan_right : (a : Float) → max a nan ≡ a
unfolding max lt is_nan
max_nan_right a = refl

pub min_nan_left : (b : Float) → min nan b ≡ b
unfolding min lt
min_nan_left b = nan_or b

pub min_nan_right : (a : Float) → min a nan ≡ a
unfolding min is_nan
min_nan_right a = rw (lt_nan a)

module _ (a b : Float) where
  pub max_not_nan_left : is_nan a ≡ false → is_nan (max a b) ≡ false
  max_not_nan_left n =
      is_false (is_nan (max a b)) (le_right a (max a b) (passed (le a (max a b)) (max_ge_left a b n)))

  pub max_not_nan_right : is_nan b ≡ false → is_nan (max a b) ≡ false
  max_not_nan_right n =
      is_false (is_nan (max a b)) (le_right b (max a b) (passed (le b (max a b)) (max_ge_right a b n)))

  pub min_not_nan_left : is_nan a ≡ false → is_nan (min a b) ≡ false
  min_not_nan_left n =
      is_false (is_nan (min a b)) (le_left (min a b) a (passed (le (min a b) a) (min_le_left a b n)))

  pub min_not_nan_right : is_nan b ≡ false → is_nan (min a b) ≡ false
  min_not_nan_right n =
      is_false (is_nan (min a b)) (le_left (min a b) b (passed (le (min a b) b) (min_le_right a b n)))

-- ---- `abs`

pub abs_plain : (x : Float) → T (plain x) → abs x ≡ x
unfolding abs
abs_plain nan p = absurd p
abs_plain (inf s) p = absurd p
abs_plain (fin true m e) p = absurd p
abs_plain (fin false m e) p = refl

pub abs_not_nan : (x : Float) → is_nan (abs x) ≡ is_nan x
unfolding abs is_nan
abs_not_nan nan = refl
abs_not_nan (inf s) = refl
abs_not_nan (fin s m e) = refl

pub abs_finite : (x : Float) → is_finite (abs x) ≡ is_finite x
unfolding abs is_finite
abs_finite nan = refl
abs_finite (inf s) = refl
abs_finite (fin s m e) = refl

pub abs_fits : (x : Float) → T (fits binary64 x) → T (fits binary64 (abs x))
unfolding abs
abs_fits nan h = h
abs_fits (inf s) h = unfold fits in tt
abs_fits (fin s m e) h = subst T (fits_sign binary64 s false m e) h

pub abs_neg : (x : Float) → abs (neg x) ≡ abs x
unfolding abs neg
abs_neg nan = refl
abs_neg (inf s) = refl
abs_neg (fin s m e) = refl

pub abs_not_below : (x : Float) → lt (abs x) 0f ≡ false
unfolding abs of_bits
abs_not_below nan = unfold lt in refl
abs_not_below (inf s) = unfold lt in refl
abs_not_below (fin s m e) = is_false (lt (fin false m e) plus_zero) (clear_not_below (fin false m e) refl)

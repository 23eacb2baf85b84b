-- For bounds on values of either sign. `Within k n x`: x is a number of f64, of at most n units of 2 ^ k in size.
-- Sums, differences, products and changes of sign keep such a bound as `Upto`'s sums and products do. Assumes nothing.
use Rattle.std.specs.Prelude.{◌≡◌, ℕ, ◌+◌, ◌-◌, ◌*◌, ◌^◌, ◌≤◌, ◌<◌, Bool, true, false, ◌&&◌, cond, T, ltb, Float}
use Rattle.std.proofs.Common.{sym, subst, mul-pos, mul-le-mul_right, le_trans, sub-le, le-add_left, le-add_right, pow-add}
use Rattle.std.specs.Bool.{beq}
use Rattle.std.specs.Float.{nan, inf, fin, binary64}
use Rattle.std.specs.Float.Ieee.{up, down, unlike, round, sum, neg, add, sub, mul, fits, is_nan}
use Rattle.std.specs.Float.Ieee.Fits.{down_pos, neg-fits}
use Rattle.std.specs.Float.Ieee.Scale.{finite}
use Rattle.std.specs.Float.Ieee.Positive.{num, den}
use Rattle.floats.specs.Binary64.{◌⊕◌, ◌⊖◌, ◌⊗◌, is_finite, max, min, abs}
use Rattle.floats.specs.Sign.{round_neg}
use Rattle.floats.specs.Plain.{plain, plain_finite}
use Rattle.floats.specs.Functions.{is_finite_of, finite_not_nan, max_keeps, min_keeps, abs_fits}
use Rattle.floats.specs.Upto.{Upto, upto_round, sum_bound, product_bound}

-- a number, held by the format, at most n * 2 ^ k in size
pub record Within (k n : ℕ) (x : Float) : Type 0 where
  pub real : T (finite x)
  pub held : T (fits binary64 x)
  pub most : num x ≤ n * 2 ^ k * den x

-- ---- `Upto` and `Within`

pub upto→within : {k n : ℕ} {x : Float} → Upto k n x → Within k n x
upto→within {k} {n} {x} u = record { real = plain_finite x u.clear; held = u.held; most = u.most }

pub within→upto : {k n : ℕ} {x : Float} → Within k n x → T (plain x) → Upto k n x
within→upto w p = record { clear = p; held = w.held; most = w.most }

-- The size of a value has its bound.
pub within_abs : {k n : ℕ} {x : Float} → Within k n x → Upto k n (abs x)
within_abs {k} {n} {x} w = record { clear = clear x w.real; held = abs_fits x w.held; most = most x w.most }
  where
    clear : (y : Float) → T (finite y) → T (plain (abs y))
    clear nan p = absurd p
    clear (inf s) p = absurd p
    clear (fin s m e) p = unfold abs in tt

    most : (y : Float) → num y ≤ n * 2 ^ k * den y → num (abs y) ≤ n * 2 ^ k * den (abs y)
    most nan h = unfold abs in h
    most (inf s) h = unfold abs in h
    most (fin s m e) h = unfold abs in h

-- ---- what a bounded value is, and its other bounds

module _ {k n : ℕ} {x : Float} (w : Within k n x) where
  pub within_finite : is_finite x ≡ true
  within_finite = is_finite_of x w.real

  pub within_not_nan : is_nan x ≡ false
  within_not_nan = finite_not_nan x within_finite

module _ {k n : ℕ} {x : Float} where
  pub within_as : (j b : ℕ) → Within k n x → n * 2 ^ k ≤ b * 2 ^ j → Within j b x
  within_as j b w h = record { real = w.real; held = w.held; most = le_trans w.most (mul-le-mul_right (den x) h) }

  pub within_more : (b : ℕ) → Within k n x → n ≤ b → Within k b x
  within_more b w h = within_as k b w (mul-le-mul_right (2 ^ k) h)

-- ---- changes of sign, choices, rounding

pub within_neg : {k n : ℕ} {x : Float} → Within k n x → Within k n (neg x)
within_neg {k} {n} {x} w =
    record { real = real x w.real; held = neg-fits binary64 x w.held; most = most x w.most }
  where
    real : (y : Float) → T (finite y) → T (finite (neg y))
    real nan p = absurd p
    real (inf s) p = absurd p
    real (fin s m e) p = unfold neg in tt

    most : (y : Float) → num y ≤ n * 2 ^ k * den y → num (neg y) ≤ n * 2 ^ k * den (neg y)
    most nan h = unfold neg in h
    most (inf s) h = unfold neg in h
    most (fin s m e) h = unfold neg in h

module _ {k n : ℕ} {x y : Float} (u : Within k n x) (v : Within k n y) where
  pub within_cond : (b : Bool) → Within k n (cond b x y)
  within_cond true = u
  within_cond false = v

  pub within_max : Within k n (max x y)
  within_max = max_keeps x y (λ (z : Float). Within k n z) u v

  pub within_min : Within k n (min x y)
  within_min = min_keeps x y (λ (z : Float). Within k n z) u v

pub within_round : (s : Bool) (k n a c : ℕ) → k ≤ 970 → n ≤ 2 ^ 53 → 0 < c → a ≤ n * 2 ^ k * c
    → Within k n (round binary64 s a c)
within_round false k n a c h l C g = upto→within (upto_round k n a c h l C g)
within_round true k n a c h l C g =
    subst (λ (z : Float). Within k n z) (sym (round_neg binary64 a c))
    (within_neg (upto→within (upto_round k n a c h l C g)))

-- ---- sums and differences

within_sum : (k n : ℕ) (s : Bool) (A : ℕ) (t : Bool) (B c : ℕ) → k ≤ 970 → n ≤ 2 ^ 53 → 0 < c → A + B ≤ n * 2 ^ k * c
    → Within k n (sum binary64 s A t B c)
unfolding sum
within_sum k n s A t B c h l C g =
    within_cond
    (within_round s k n (A + B) c h l C g)
    (within_cond
    (within_round t k n (B - A) c h l C (le_trans (sub-le B A) (le_trans (le-add_left B A) g)))
    (within_round (s && ltb B A) k n (A - B) c h l C (le_trans (sub-le A B) (le_trans (le-add_right A B) g)))
    (ltb A B))
    (beq s t)

added : (k a b : ℕ) (x y : Float) → Within k a x → Within k b y → k ≤ 970 → a + b ≤ 2 ^ 53 → Within k (a + b) (x ⊕ y)
unfolding add
added k a b nan y u v h l = absurd u.real
added k a b (inf s) y u v h l = absurd u.real
added k a b (fin s m e) nan u v h l = absurd v.real
added k a b (fin s m e) (inf t) u v h l = absurd v.real
added k a b (fin s m e) (fin t n d) u v h l =
    within_sum k (a + b) s (m * up e * down d) t (n * up d * down e) (down e * down d) h l
    (mul-pos (down_pos e) (down_pos d))
    (sum_bound (m * up e) (n * up d) (down e) (down d) a b (2 ^ k) u.most v.most)

pub within_add : {k a b : ℕ} {x y : Float} → Within k a x → Within k b y → k ≤ 970 → a + b ≤ 2 ^ 53
    → Within k (a + b) (x ⊕ y)
within_add {k} {a} {b} {x} {y} u v h l = added k a b x y u v h l

pub within_sub : {k a b : ℕ} {x y : Float} → Within k a x → Within k b y → k ≤ 970 → a + b ≤ 2 ^ 53
    → Within k (a + b) (x ⊖ y)
unfolding sub
within_sub u v h l = within_add u (within_neg v) h l

-- ---- products

multiplied : (j k a b : ℕ) (x y : Float) → Within j a x → Within k b y → j + k ≤ 970 → a * b ≤ 2 ^ 53
    → Within (j + k) (a * b) (x ⊗ y)
unfolding mul
multiplied j k a b nan y u v h l = absurd u.real
multiplied j k a b (inf s) y u v h l = absurd u.real
multiplied j k a b (fin s m e) nan u v h l = absurd v.real
multiplied j k a b (fin s m e) (inf t) u v h l = absurd v.real
multiplied j k a b (fin s m e) (fin t n d) u v h l =
    within_round (unlike s t) (j + k) (a * b) (m * up e * (n * up d)) (down e * down d) h l
    (mul-pos (down_pos e) (down_pos d))
    (subst (λ (z : ℕ). m * up e * (n * up d) ≤ a * b * z * (down e * down d)) (sym (pow-add 2 j k))
    (product_bound (m * up e) (n * up d) (down e) (down d) a b (2 ^ j) (2 ^ k) u.most v.most))

pub within_mul : {j k a b : ℕ} {x y : Float} → Within j a x → Within k b y → j + k ≤ 970 → a * b ≤ 2 ^ 53
    → Within (j + k) (a * b) (x ⊗ y)
within_mul {j} {k} {a} {b} {x} {y} u v h l = multiplied j k a b x y u v h l

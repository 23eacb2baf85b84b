-- For sorting by Rust's `total_cmp`: between numbers it says less exactly where `<` does, but at -0.0, which it puts
-- before 0.0 (`total_less_is`). The bit pattern of a number with its sign clear counts f64's smallest values: `bits_of`
-- computes it from their number, and `key_mono` shows that it grows with it. Assumes nothing.
use Rattle.std.specs.Prelude.{◌≡◌, ℕ, zero, suc, ◌+◌, ◌-◌, ◌*◌, ◌/◌, ◌^◌, ◌≤◌, ◌<◌, Bool, true, false, cond, ℤ, pos, negsuc, T, leb, ltb, Float}
use Rattle.std.proofs.Math.Path.{refl}
use Rattle.std.proofs.Common.{sym, ap, ap₂, ◌∙◌, subst, inl, inr, eq-or-lt_of_le, lt_of_le_of_lt, le_trans, le_of_eq, zero-add, suc-mul, mul_assoc, mul_comm, mul_right_comm, mul-pos, zero-lt-suc, le-add_right, mul-le-mul_right, le_of_mul-le-mul_right, mul-div_cancel, le-div_iff_mul-le, pow-suc, arith, true≢false, le→leb, lt→ltb, leb→le, ltb→lt, pow-add, pow_pos, lt-ltb, le-ltb, ltb-true, ltb-false}
use Rattle.std.proofs.Math.Dec.{not_T}
use Rattle.std.proofs.Math.Arith.{lt_of_le-ne}
use Rattle.std.proofs.Math.Pow.{shr_mono}
use Rattle.std.specs.Int.Signed.{lt_z}
use Rattle.std.specs.Float.{nan, inf, fin, Format, binary64}
use Rattle.std.specs.Float.Ieee.{prec, low, up, down, size, lt, le, fits, is_nan, hid, of_bits, to_bits, neg}
use Rattle.std.specs.Float.Ieee.Digits.{size-lt, size-le, size_reaches}
use Rattle.std.specs.Float.Ieee.Fits.{kept-lt, up_pos, down_pos}
use Rattle.std.specs.Float.Ieee.Bits.{is_true, is_false, of_bits-to_bits, to_bits-lt}
use Rattle.std.specs.Float.Ieee.Positive.{num, den, den_pos}
use Rattle.std.specs.Float.Ieee.Scale.{finite}
use Rattle.floats.specs.Binary64.{is_finite, is_sign_negative, total_rank, total_less, total_key, -0f}
use Rattle.floats.specs.Order.{same_test, negated, lt→le, not_lt_self, lt_of_nle}
use Rattle.floats.specs.Exact.{whole_units, zero_exp}
use Rattle.floats.specs.Sign.{fits_sign}
use Rattle.floats.specs.Plain.{plain, plain_finite, plain_not_nan, le→cross}
use Rattle.floats.specs.Functions.{finite_of}

-- ---- the pattern of n of a format's smallest values, for a format of p digits

abbrev key : ℕ → ℕ → ℕ
key p n = (size n - p) * 2 ^ (p - 1) + n / 2 ^ (size n - p)

fewer : (x y p : ℕ) → x ≤ y → x - p ≤ y - p
fewer x y p h = omega arith

all_in_use : (z p k : ℕ) → 0 < p → k ≡ z - p → 0 < k → p - 1 + k < z
all_in_use z p k P e h = omega arith

double : (p : ℕ) → 0 < p → 2 ^ p ≡ 2 ^ (p - 1) * 2
double p P = ap (λ (z : ℕ). 2 ^ z) (back p P) ∙ pow-suc 2 (p - 1)
  where
    back : (p : ℕ) → 0 < p → p ≡ suc (p - 1)
    back p P = omega arith

step : (j k : ℕ) → j < k → 0 < k
step j k h = omega arith

-- With as many digits dropped the kept ones grow; with more dropped, the exponent's field grows by more than the kept
-- ones can fall.
key_mono : (p a b : ℕ) → 0 < p → a ≤ b → key p a ≤ key p b
key_mono p a b P h =
    let j = size a - p in
    let k = size b - p in
    let H = 2 ^ (p - 1) in
    elim (eq-or-lt_of_le (fewer (size a) (size b) p (size-le a (size b) (lt_of_le_of_lt h (size-lt b))))) [
      | inl e ↦
          subst (λ (z : ℕ). z * H + a / 2 ^ z ≤ k * H + b / 2 ^ k) (sym e)
          (same (k * H) (a / 2 ^ k) (b / 2 ^ k) (shr_mono k h))
      | inr l ↦
          far (j * H) (k * H) H (a / 2 ^ j) (b / 2 ^ k) (le_trans (le_of_eq (sym (suc-mul j H))) (mul-le-mul_right H l))
          (subst (λ (z : ℕ). a / 2 ^ j < z) (double p P) (kept-lt p a))
          ((le-div_iff_mul-le (pow_pos k)).1
          (le_trans (le_of_eq (sym (pow-add 2 (p - 1) k)))
          (size_reaches b (p - 1 + k) (all_in_use (size b) p k P refl (step j k l)))))
    ]
  where
    same : (c x y : ℕ) → x ≤ y → c + x ≤ c + y
    same c x y h = omega arith

    far : (J K H x y : ℕ) → J + H ≤ K → x < H * 2 → H ≤ y → J + x ≤ K + y
    far J K H x y a b c = omega arith

-- ---- the pattern of a plain value

bits_of : (f : Format) (x : Float) (n : ℕ) → T (plain x) → num x * 2 ^ low f ≡ n * den x → to_bits f x ≡ key (prec f) n
unfolding to_bits
bits_of f nan n p e = absurd p
bits_of f (inf s) n p e = absurd p
bits_of f (fin true m d) n p e = absurd p
bits_of f (fin false m d) n p e =
    let w = m * up d * 2 ^ low f / down d in
    ap (λ (z : ℕ). z + w / 2 ^ (size w - prec f)) (zero-add ((size w - prec f) * hid f))
    ∙ ap (key (prec f)) (ap (λ (z : ℕ). z / down d) e ∙ mul-div_cancel n (down_pos d))

module _ (x y : Float) (p : T (plain x)) (q : T (plain y)) (h : T (fits binary64 x)) (k : T (fits binary64 y)) where
  X : (n : ℕ) × (num x * 2 ^ low binary64 ≡ n * den x)
  X = whole_units binary64 x (plain_finite x p) h

  Y : (n : ℕ) × (num y * 2 ^ low binary64 ≡ n * den y)
  Y = whole_units binary64 y (plain_finite y q) k

  units_le : T (le x y) → X.0 ≤ Y.0
  units_le g =
      le_of_mul-le-mul_right
      (le_trans (le_of_eq (sym (mul_assoc X.0 (den x) (den y)) ∙ ap (λ (z : ℕ). z * den y) (sym X.1)
      ∙ mul_right_comm (num x) (2 ^ low binary64) (den y)))
      (le_trans (mul-le-mul_right (2 ^ low binary64) (le→cross x y p q g))
      (le_of_eq (mul_right_comm (num y) (den x) (2 ^ low binary64) ∙ ap (λ (z : ℕ). z * den x) Y.1
      ∙ mul_assoc Y.0 (den y) (den x) ∙ ap (λ (z : ℕ). Y.0 * z) (mul_comm (den y) (den x))))))
      (mul-pos (den_pos x) (den_pos y))

  bits_le : T (le x y) → to_bits binary64 x ≤ to_bits binary64 y
  bits_le g =
      le_trans (le_of_eq (bits_of binary64 x X.0 p X.1))
      (le_trans (key_mono 53 X.0 Y.0 (zero-lt-suc 52) (units_le g))
      (le_of_eq (sym (bits_of binary64 y Y.0 q Y.1))))

  bits_lt : T (lt x y) → to_bits binary64 x < to_bits binary64 y
  bits_lt g =
      lt_of_le-ne (bits_le (lt→le x y g))
      (λ (e : to_bits binary64 x ≡ to_bits binary64 y). not_lt_self y
      (subst (λ (z : Float). T (lt z y))
      (sym (of_bits-to_bits binary64 x h) ∙ ap (of_bits binary64) e ∙ of_bits-to_bits binary64 y k) g))

clash : (a b : ℕ) → a < b → b ≤ a → ⊥
clash a b g l = omega arith

-- Plain values are ordered as their patterns are.
pub lt_bits : (x y : Float) → T (plain x) → T (plain y) → T (fits binary64 x) → T (fits binary64 y)
    → lt x y ≡ ltb (to_bits binary64 x) (to_bits binary64 y)
lt_bits x y p q h k =
    let a = to_bits binary64 x in
    let b = to_bits binary64 y in
    let n = negated (is_nan x) (plain_not_nan x p) in
    let m = negated (is_nan y) (plain_not_nan y q) in
    same_test (lt x y) (ltb a b) (λ g. lt→ltb a b (bits_lt x y p q h k g))
    (λ g. lt_of_nle y x m n (λ (o : T (le y x)). clash a b (ltb→lt a b g) (bits_le y x q p k h o)))

-- ---- the sign bit

top_up : (t a b : ℕ) → t + a + b ≡ t + (0 + a + b)
top_up t a b = omega arith

bits_set : (m : ℕ) (e : ℤ) → to_bits binary64 (fin true m e) ≡ 2 ^ 63 + to_bits binary64 (fin false m e)
unfolding to_bits
bits_set m e =
    let n = m * up e * 2 ^ low binary64 / down e in
    let k = size n - 53 in
    top_up (2 ^ 63) (k * 2 ^ 52) (n / 2 ^ k)

below_top : (t b : ℕ) → t + b < 2 * t → b < t
below_top t b h = omega arith

bits_clear : (m : ℕ) (e : ℤ) (s : Bool) → T (fits binary64 (fin s m e)) → to_bits binary64 (fin false m e) < 2 ^ 63
bits_clear m e s h =
    below_top (2 ^ 63) (to_bits binary64 (fin false m e))
    (subst (λ (z : ℕ). z < 2 * 2 ^ 63) (bits_set m e)
    (to_bits-lt binary64 (fin true m e) (subst T (fits_sign binary64 s true m e) h)))

not_below_top : (t b : ℕ) → t + b < t → ⊥
not_below_top t b h = omega arith

past_top : (t b : ℕ) → t + b - t ≡ b
past_top t b = omega arith

ranked : (b : ℕ) → b < 2 ^ 63 → cond (ltb b (2 ^ 63)) (pos b) (negsuc (b - 2 ^ 63)) ≡ pos b
ranked b h = ap (λ (t : Bool). cond t (pos b) (negsuc (b - 2 ^ 63))) (is_true (ltb b (2 ^ 63)) (lt→ltb b (2 ^ 63) h))

ranked_set : (b : ℕ) → cond (ltb (2 ^ 63 + b) (2 ^ 63)) (pos (2 ^ 63 + b)) (negsuc (2 ^ 63 + b - 2 ^ 63)) ≡ negsuc b
ranked_set b =
    let t = 2 ^ 63 in
    ap (λ (c : Bool). cond c (pos (t + b)) (negsuc (t + b - t)))
    (is_false (ltb (t + b) t) (not_T (ltb (t + b) t) (λ h. not_below_top t b (ltb→lt (t + b) t h))))
    ∙ ap negsuc (past_top t b)

rank_clear : (m : ℕ) (e : ℤ) → T (fits binary64 (fin false m e))
    → total_rank (fin false m e) ≡ pos (to_bits binary64 (fin false m e))
unfolding total_rank
rank_clear m e h = ranked (to_bits binary64 (fin false m e)) (bits_clear m e false h)

rank_set : (m : ℕ) (e : ℤ) → total_rank (fin true m e) ≡ negsuc (to_bits binary64 (fin false m e))
unfolding total_rank
rank_set m e =
    ap (λ (z : ℕ). cond (ltb z (2 ^ 63)) (pos z) (negsuc (z - 2 ^ 63))) (bits_set m e)
    ∙ ranked_set (to_bits binary64 (fin false m e))

-- The sign bit is set exactly in the patterns from 2 ^ 63 on.
pub sign_bit : (x : Float) → T (fits binary64 x) → is_nan x ≡ false
    → is_sign_negative x ≡ leb (2 ^ 63) (to_bits binary64 x)
unfolding is_sign_negative is_nan
sign_bit nan h n = absurd (true≢false n)
sign_bit (inf true) h n = unfold to_bits in refl
sign_bit (inf false) h n = unfold to_bits in refl
sign_bit (fin true m e) h n =
    let b = to_bits binary64 (fin false m e) in
    sym (ap (leb (2 ^ 63)) (bits_set m e)
    ∙ is_true (leb (2 ^ 63) (2 ^ 63 + b)) (le→leb (2 ^ 63) (2 ^ 63 + b) (le-add_right (2 ^ 63) b)))
sign_bit (fin false m e) h n =
    let b = to_bits binary64 (fin false m e) in
    sym (is_false (leb (2 ^ 63) b)
    (not_T (leb (2 ^ 63) b) (λ g. clash b (2 ^ 63) (bits_clear m e false h) (leb→le (2 ^ 63) b g))))

-- ---- `total_cmp`

-- a number below zero is below every plain one
signs_lt : (m : ℕ) (e : ℤ) (n : ℕ) (d : ℤ) → lt (fin true (suc m) e) (fin false n d) ≡ true
unfolding lt
signs_lt m e n d =
    let a = suc m * up e * down d in
    let b = n * up d * down e in
    is_true (ltb 0 (a + b)) (lt→ltb 0 (a + b) (some a b (mul-pos (mul-pos (zero-lt-suc m) (up_pos e)) (down_pos d))))
  where
    some : (a b : ℕ) → 0 < a → 0 < a + b
    some a b h = omega arith

ranks : (x y : Float) → T (finite x) → T (finite y) → T (fits binary64 x) → T (fits binary64 y) → (x ≡ -0f → ⊥)
    → lt_z (total_rank x) (total_rank y) ≡ lt x y
unfolding neg of_bits
ranks nan y p q h k z = absurd p
ranks (inf s) y p q h k z = absurd p
ranks (fin s m e) nan p q h k z = absurd q
ranks (fin s m e) (inf t) p q h k z = absurd q
ranks (fin false m e) (fin false n d) p q h k z =
    ap₂ lt_z (rank_clear m e h) (rank_clear n d k) ∙ sym (lt_bits (fin false m e) (fin false n d) tt tt h k)
ranks (fin false m e) (fin true n d) p q h k z = ap₂ lt_z (rank_clear m e h) (rank_set n d) ∙ apart
  where
    apart : false ≡ lt (fin false m e) (fin true n d)
    apart = unfold lt in refl
ranks (fin true zero e) (fin false n d) p q h k z = absurd (z (ap (fin true 0) (zero_exp binary64 true e h)))
ranks (fin true (suc m) e) (fin false n d) p q h k z =
    ap₂ lt_z (rank_set (suc m) e) (rank_clear n d k) ∙ sym (signs_lt m e n d)
ranks (fin true m e) (fin true n d) p q h k z =
    ap₂ lt_z (rank_set m e) (rank_set n d)
    ∙ sym (lt_bits (fin false n d) (fin false m e) tt tt (subst T (fits_sign binary64 true false n d) k)
    (subst T (fits_sign binary64 true false m e) h))
    ∙ mirrored
  where
    mirrored : lt (fin false n d) (fin false m e) ≡ lt (fin true m e) (fin true n d)
    mirrored = unfold lt in refl

-- Between numbers, the first of which is not -0.0, `total_cmp` says less exactly where `<` does.
pub total_less_is : (x y : Float) → is_finite x ≡ true → is_finite y ≡ true → T (fits binary64 x)
    → T (fits binary64 y) → (x ≡ -0f → ⊥) → total_less x y ≡ lt x y
unfolding total_less
total_less_is x y p q h k z = ranks x y (finite_of x p) (finite_of y q) h k z

-- ---- `total_cmp` by keys

module _ (a b : ℕ) where
  keys_low : (t : ℕ) → ltb a b ≡ ltb (a + t) (b + t)
  keys_low t = go (ltb a b) refl
    where
      go : (u : Bool) → ltb a b ≡ u → u ≡ ltb (a + t) (b + t)
      go true e = sym (lt-ltb (a + t) (b + t) (omega (arith, ltb-true a b e)))
      go false e = sym (le-ltb (a + t) (b + t) (omega (arith, ltb-false a b e)))

  keys_high : (t : ℕ) → a < t → b < t → ltb b a ≡ ltb (t - 1 - a) (t - 1 - b)
  keys_high t h k = go (ltb b a) refl
    where
      go : (u : Bool) → ltb b a ≡ u → u ≡ ltb (t - 1 - a) (t - 1 - b)
      go true e = sym (lt-ltb (t - 1 - a) (t - 1 - b) (omega (arith, ltb-true b a e)))
      go false e = sym (le-ltb (t - 1 - a) (t - 1 - b) (omega (arith, ltb-false b a e)))

-- of two patterns below 2 * t
keys : (t a b : ℕ) → a < 2 * t → b < 2 * t → (u v : Bool) → ltb a t ≡ u → ltb b t ≡ v
    → lt_z (cond u (pos a) (negsuc (a - t))) (cond v (pos b) (negsuc (b - t))) ≡ ltb (cond u (a + t) (2 * t - 1 - a)) (cond v (b + t) (2 * t - 1 - b))
keys t a b h k true true e f = keys_low a b t
keys t a b h k true false e f = sym (le-ltb (a + t) (2 * t - 1 - b) (omega (arith, ltb-false b t f)))
keys t a b h k false true e f = sym (lt-ltb (2 * t - 1 - a) (b + t) (omega (arith, ltb-false a t e)))
keys t a b h k false false e f =
    let d : ltb (b - t) (a - t) ≡ ltb b a = back (omega (arith, ltb-false a t e)) (omega (arith, ltb-false b t f)) in
    d ∙ keys_high a b (2 * t) h k
  where
    back : t ≤ a → t ≤ b → ltb (b - t) (a - t) ≡ ltb b a
    back p q =
        let e : b - t + t ≡ b = omega arith in
        let f : a - t + t ≡ a = omega arith in
        keys_low (b - t) (a - t) t ∙ ap₂ ltb e f

-- `total_cmp` says less exactly where the key is less.
pub total_less_keys : (x y : Float) → T (fits binary64 x) → T (fits binary64 y) → total_less x y ≡ ltb (total_key x) (total_key y)
unfolding total_less total_rank total_key
total_less_keys x y h k =
    keys (2 ^ 63) (to_bits binary64 x) (to_bits binary64 y) (to_bits-lt binary64 x h) (to_bits-lt binary64 y k) (ltb (to_bits binary64 x) (2 ^ 63)) (ltb (to_bits binary64 y) (2 ^ 63)) refl refl

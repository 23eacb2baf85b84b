-- For comparing two sums or differences term by term: a sum of numbers grows with each term, and x - y grows with x and
-- shrinks as y grows, whatever the signs; the results may overflow to infinities. A sum is (p - n) / c rounded, p what
-- is above zero and n what is below, but for the sign of a zero. Assumes nothing.
use Rattle.std.specs.Prelude.{◌≡◌, refl, ℕ, ◌+◌, ◌-◌, ◌*◌, ◌≤◌, ◌<◌, Bool, true, false, not, cond, ℤ, T, ltb, Float}
use Rattle.std.proofs.Common.{sym, ap, ap₂, ◌∙◌, subst, add-zero, zero-add, not-suc-le-zero, add-mul, mul_assoc, mul_comm, mul_left_comm, mul-pos, mul-le-mul_right, mul-lt-mul_of_pos_right, le_of_eq, le_trans, arith, ltb→lt, nltb→le}
use Rattle.std.proofs.Math.Nat.{sub-zero, zero-sub, mul-mul-mul_comm, mul-sub}
use Rattle.std.specs.Float.{nan, inf, fin, binary64}
use Rattle.std.specs.Float.Ieee.{up, down, round, sum, neg, add, sub, le}
use Rattle.std.specs.Float.Ieee.Fits.{down_pos}
use Rattle.std.specs.Float.Ieee.Bits.{is_true}
use Rattle.std.specs.Float.Ieee.Order.{round_mono}
use Rattle.std.specs.Float.Ieee.Scale.{finite}
use Rattle.floats.specs.Binary64.{◌⊕◌, ◌⊖◌, is_finite}
use Rattle.floats.specs.Order.{plus_zero, minus_zero, over, under, over_mul, under_mul, le→AtMost, le_le, passed}
use Rattle.floats.specs.Exact.{round_zero}
use Rattle.floats.specs.Sign.{round_sign, signs_le, round_mono_neg, le_neg}
use Rattle.floats.specs.Functions.{finite_of}

-- ---- (p - n) / c rounded, with a zero that is +0

abbrev pick : Bool → ℕ → ℕ → ℕ → Float
pick b p n c = cond b (round binary64 true (n - p) c) (round binary64 false (p - n) c)

abbrev signed : ℕ → ℕ → ℕ → Float
signed p n c = pick (ltb p n) p n c

under_shift : (p n c q m d : ℕ) → p * d + m * c ≤ q * c + n * d → (m - q) * c ≤ (n - p) * d
under_shift p n c q m d h =
    let x : (m - q) * c ≡ c * m - c * q = mul_comm (m - q) c ∙ mul-sub c m q in
    let y : (n - p) * d ≡ d * n - d * p = mul_comm (n - p) d ∙ mul-sub d n p in
    let g : d * p + c * m ≤ c * q + d * n = omega (arith, mul_comm p d, mul_comm m c, mul_comm q c, mul_comm n d) in
    le_trans (le_of_eq x) (le_trans (go (c * m) (c * q) (d * n) (d * p) g) (le_of_eq (sym y)))
  where
    go : (a b c d : ℕ) → d + a ≤ b + c → a - b ≤ c - d
    go a b c d h = omega arith

no_turn : (p n c q m d : ℕ) → 0 < c → n ≤ p → q < m → p * d + m * c ≤ q * c + n * d → ⊥
no_turn p n c q m d C h k l = go (p * d) (m * c) (q * c) (n * d) (mul-le-mul_right d h) (mul-lt-mul_of_pos_right k C) l
  where
    go : (a b c d : ℕ) → d ≤ a → c < b → a + b ≤ c + d → ⊥
    go a b c d h k l = omega arith

signed_mono : (p n c q m d : ℕ) → 0 < c → 0 < d → p * d + m * c ≤ q * c + n * d → T (le (signed p n c) (signed q m d))
signed_mono p n c q m d C D h = go (ltb p n) (ltb q m) (nltb→le p n) (ltb→lt q m)
  where
    flip : (a b c d : ℕ) → a + b ≤ c + d → b + a ≤ d + c
    flip a b c d h = omega arith

    go : (s t : Bool) → (T (not s) → n ≤ p) → (T t → q < m) → T (le (pick s p n c) (pick t q m d))
    go true true a b = round_mono_neg binary64 (m - q) d (n - p) c D C (under_shift p n c q m d h)
    go true false a b =
        signs_le (round binary64 true (n - p) c) (round binary64 false (q - m) d)
        (round_sign binary64 true (n - p) c) (round_sign binary64 false (q - m) d)
    go false true a b = absurd (no_turn p n c q m d C (a tt) (b tt) h)
    go false false a b =
        round_mono binary64 (p - n) c (q - m) d C D (under_shift m q d n p c (flip (p * d) (m * c) (q * c) (n * d) h))

-- ---- a sum is that rounding, but for the sign of a zero

abbrev Same : Float → Float → Type 0
Same x y = T (le x y) × T (le y x)

same_eq : (p n c : ℕ) (x : Float) → 0 < c → x ≡ signed p n c → Same x (signed p n c)
same_eq p n c x C e = let r = signed_mono p n c p n c C C (le_of_eq refl) in (rw e r, rw e r)

zeros : (a b c : ℕ) → 0 < c → a ≡ 0 → b ≡ 0 → Same (round binary64 true a c) (round binary64 false b c)
zeros a b c C p q =
    let x : round binary64 true a c ≡ minus_zero =
    ap (λ (z : ℕ). round binary64 true z c) p ∙ round_zero binary64 true c C in
    let y : round binary64 false b c ≡ plus_zero =
    ap (λ (z : ℕ). round binary64 false z c) q ∙ round_zero binary64 false c C in
    (rw (x, y) (unfold le in tt), rw (x, y) (unfold le in tt))

sum_signed : (s : Bool) (a : ℕ) (t : Bool) (b c : ℕ) → 0 < c
    → Same (sum binary64 s a t b c) (signed (over s a + over t b) (under s a + under t b) c)
unfolding sum
sum_signed false a false b c C =
    same_eq (a + b) 0 c (round binary64 false (a + b) c) C (go (ltb (a + b) 0) (ltb→lt (a + b) 0))
  where
    go : (u : Bool) → (T u → a + b < 0) → round binary64 false (a + b) c ≡ pick u (a + b) 0 c
    go true h = absurd (not-suc-le-zero (h tt))
    go false h = ap (λ (z : ℕ). round binary64 false z c) (sym (sub-zero (a + b)))
sum_signed true a true b c C =
    go (ltb 0 (a + b)) (nltb→le 0 (a + b)) (same_eq 0 (a + b) c (round binary64 true (a + b) c) C) refl
  where
    vanish : (z : ℕ) → z ≤ 0 → z ≡ 0
    vanish z h = omega arith

    go : (u : Bool) → (T (not u) → a + b ≤ 0) → (round binary64 true (a + b) c ≡ signed 0 (a + b) c
        → Same (round binary64 true (a + b) c) (signed 0 (a + b) c))
        → ltb 0 (a + b) ≡ u → Same (round binary64 true (a + b) c) (signed 0 (a + b) c)
    go true h k e =
        k (ap (λ (z : ℕ). round binary64 true z c) (sym (sub-zero (a + b)))
        ∙ ap (λ (v : Bool). pick v 0 (a + b) c) (sym e))
    go false h k e =
        subst (λ (v : Bool). Same (round binary64 true (a + b) c) (pick v 0 (a + b) c)) (sym e)
        (zeros (a + b) (0 - (a + b)) c C (vanish (a + b) (h tt)) (zero-sub (a + b)))
sum_signed false a true b c C =
    same_eq (a + 0) (0 + b) c (pick (ltb a b) a b c) C
    (ap₂ (λ (p n : ℕ). signed p n c) (sym (add-zero a)) (sym (zero-add b)))
sum_signed true a false b c C =
    same_eq (0 + b) (a + 0) c (cond (ltb a b) (round binary64 false (b - a) c) (round binary64 (ltb b a) (a - b) c)) C
    (go (ltb a b) (ltb b a) (ltb→lt a b) (ltb→lt b a) (nltb→le a b) (nltb→le b a)
    ∙ ap₂ (λ (p n : ℕ). signed p n c) (sym (zero-add b)) (sym (add-zero a)))
  where
    clash : a < b → b < a → ⊥
    clash h k = omega arith

    level : b ≤ a → a ≤ b → a - b ≡ b - a
    level h k = omega arith

    go : (u v : Bool) → (T u → a < b) → (T v → b < a) → (T (not u) → b ≤ a) → (T (not v) → a ≤ b)
        → cond u (round binary64 false (b - a) c) (round binary64 v (a - b) c) ≡ pick v b a c
    go true true h k m n = absurd (clash (h tt) (k tt))
    go true false h k m n = refl
    go false true h k m n = refl
    go false false h k m n = ap (λ (z : ℕ). round binary64 false z c) (level (m tt) (n tt))

-- ---- x ≤ x' and y ≤ y': x is (A - A') / p, x' is (B - B') / q, y is (C - C') / r, y' is (D - D') / s

last_first : (z a b c : ℕ) → z * a * (b * c) ≡ z * c * (a * b)
last_first z a b c = simp (mul_assoc, mul_comm, mul_left_comm)

both_grow : (A A' p B B' q C C' r D D' s : ℕ) → A * q + B' * p ≤ B * p + A' * q → C * s + D' * r ≤ D * r + C' * s
    → (A * r + C * p) * (q * s) + (B' * s + D' * q) * (p * r) ≤ (B * s + D * q) * (p * r) + (A' * r + C' * p) * (q * s)
both_grow A A' p B B' q C C' r D D' s h k =
    let x : A * q * (r * s) + B' * p * (r * s) ≤ B * p * (r * s) + A' * q * (r * s) =
    simp (← add-mul) (mul-le-mul_right (r * s) h) in
    let y : C * s * (p * q) + D' * r * (p * q) ≤ D * r * (p * q) + C' * s * (p * q) =
    simp (← add-mul) (mul-le-mul_right (p * q) k) in
    simp add-mul
    (omega (
      arith,
      mul-mul-mul_comm A r q s,
      mul-mul-mul_comm A' r q s,
      last_first C p q s,
      last_first C' p q s,
      mul-mul-mul_comm B s p r,
      mul-mul-mul_comm B' s p r,
      mul_comm s r,
      ap (λ (z : ℕ). B * p * z) (mul_comm s r),
      ap (λ (z : ℕ). B' * p * z) (mul_comm s r),
      last_first D q p r,
      last_first D' q p r,
      ap (λ (z : ℕ). D * r * z) (mul_comm q p),
      ap (λ (z : ℕ). D' * r * z) (mul_comm q p),
    ))

-- the sum's two sides, over its denominator
sides : (s : Bool) (a u : ℕ) (t : Bool) (b v : ℕ)
    → (over s (a * u) + over t (b * v) ≡ over s a * u + over t b * v)
    × (under s (a * u) + under t (b * v) ≡ under s a * u + under t b * v)
sides s a u t b v = (rw (over_mul s a u, over_mul t b v), rw (under_mul s a u, under_mul t b v))

sum_le : (s : Bool) (m : ℕ) (e : ℤ) (s' : Bool) (m' : ℕ) (e' : ℤ)
    (t : Bool) (n : ℕ) (d : ℤ) (t' : Bool) (n' : ℕ) (d' : ℤ) → T (le (fin s m e) (fin s' m' e'))
    → T (le (fin t n d) (fin t' n' d')) → T (le (fin s m e ⊕ fin t n d) (fin s' m' e' ⊕ fin t' n' d'))
unfolding add
sum_le s m e s' m' e' t n d t' n' d' h k =
    let a = m * up e in
    let b = n * up d in
    let a' = m' * up e' in
    let b' = n' * up d' in
    let c = down e * down d in
    let c' = down e' * down d' in
    let C = mul-pos (down_pos e) (down_pos d) in
    let C' = mul-pos (down_pos e') (down_pos d') in
    let p = over s (a * down d) + over t (b * down e) in
    let q = under s (a * down d) + under t (b * down e) in
    let p' = over s' (a' * down d') + over t' (b' * down e') in
    let q' = under s' (a' * down d') + under t' (b' * down e') in
    let i = sides s a (down d) t b (down e) in
    let i' = sides s' a' (down d') t' b' (down e') in
    let g : p * c' + q' * c ≤ p' * c + q * c' =
    rw (i.0, i.1, i'.0, i'.1)
    (both_grow (over s a) (under s a) (down e) (over s' a') (under s' a') (down e') (over t b) (under t b) (down d)
    (over t' b') (under t' b') (down d')
    (le→AtMost s m e s' m' e' h) (le→AtMost t n d t' n' d' k)) in
    let x = sum binary64 s (a * down d) t (b * down e) c in
    let x' = sum binary64 s' (a' * down d') t' (b' * down e') c' in
    le_le x (signed p q c) x' (sum_signed s (a * down d) t (b * down e) c C).0
    (le_le (signed p q c) (signed p' q' c') x' (signed_mono p q c p' q' c' C C' g)
    (sum_signed s' (a' * down d') t' (b' * down e') c' C').1)

-- ---- the laws

pub add_mono : (x x' y y' : Float) → T (finite x) → T (finite x') → T (finite y) → T (finite y') → T (le x x')
    → T (le y y') → T (le (x ⊕ y) (x' ⊕ y'))
add_mono nan x' y y' p p' q q' h k = absurd p
add_mono (inf s) x' y y' p p' q q' h k = absurd p
add_mono (fin s m e) nan y y' p p' q q' h k = absurd p'
add_mono (fin s m e) (inf s') y y' p p' q q' h k = absurd p'
add_mono (fin s m e) (fin s' m' e') nan y' p p' q q' h k = absurd q
add_mono (fin s m e) (fin s' m' e') (inf t) y' p p' q q' h k = absurd q
add_mono (fin s m e) (fin s' m' e') (fin t n d) nan p p' q q' h k = absurd q'
add_mono (fin s m e) (fin s' m' e') (fin t n d) (inf t') p p' q q' h k = absurd q'
add_mono (fin s m e) (fin s' m' e') (fin t n d) (fin t' n' d') p p' q q' h k = sum_le s m e s' m' e' t n d t' n' d' h k

neg_finite : (x : Float) → T (finite x) → T (finite (neg x))
unfolding neg
neg_finite nan p = absurd p
neg_finite (inf s) p = absurd p
neg_finite (fin s m e) p = tt

pub sub_mono : (x x' y y' : Float) → T (finite x) → T (finite x') → T (finite y) → T (finite y') → T (le x x')
    → T (le y' y) → T (le (x ⊖ y) (x' ⊖ y'))
unfolding sub
sub_mono x x' y y' p p' q q' h k =
    add_mono x x' (neg y) (neg y') p p' (neg_finite y q) (neg_finite y' q') h (le_neg y' y k)

-- .. as equations
module _ (x x' y y' : Float) (p : is_finite x ≡ true) (p' : is_finite x' ≡ true) (q : is_finite y ≡ true)
    (q' : is_finite y' ≡ true) where
  pub add_mono_true : le x x' ≡ true → le y y' ≡ true → le (x ⊕ y) (x' ⊕ y') ≡ true
  add_mono_true h k =
      is_true (le (x ⊕ y) (x' ⊕ y'))
      (add_mono x x' y y' (finite_of x p) (finite_of x' p') (finite_of y q) (finite_of y' q') (passed (le x x') h)
      (passed (le y y') k))

  pub sub_mono_true : le x x' ≡ true → le y' y ≡ true → le (x ⊖ y) (x' ⊖ y') ≡ true
  sub_mono_true h k =
      is_true (le (x ⊖ y) (x' ⊖ y'))
      (sub_mono x x' y y' (finite_of x p) (finite_of x' p') (finite_of y q) (finite_of y' q') (passed (le x x') h)
      (passed (le y' y) k))

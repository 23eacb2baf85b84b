-- For the sign of x - y: for plain x and y it is above zero exactly where y < x, below zero exactly where x < y, +0
-- where they are equal, and never -0. Each is a whole number of f64's smallest values, so a difference that is not zero
-- is one of these at least, and does not round to zero. Assumes nothing.
use Rattle.std.specs.Prelude.{◌≡◌, refl, ℕ, ◌-◌, ◌*◌, ◌^◌, ◌≤◌, ◌<◌, Bool, true, false, Float}
use Rattle.std.proofs.Math.Path.{sym, subst}
use Rattle.std.proofs.Common.{ap, ◌∙◌, inl, inr, zero-lt-suc, mul_comm, mul_assoc, mul_right_comm, mul-pos, mul-le-mul_right, lt_of_mul-lt-mul_right, mul-lt-mul_of_pos_right, le_of_eq, le_trans, arith, lit<, pow_pos}
use Rattle.std.proofs.Math.Nat.{mul-sub}
use Rattle.std.proofs.Math.Bool.{true≢false}
use Rattle.std.proofs.Math.Dec.{T}
use Rattle.std.specs.Float.{binary64}
use Rattle.std.specs.Float.Ieee.{low, round, neg, lt, le, eq, fits, is_nan, of_bits}
use Rattle.std.specs.Float.Ieee.Bits.{is_true}
use Rattle.std.specs.Float.Ieee.Exact.{HasValue, round_exact}
use Rattle.std.specs.Float.Ieee.Order.{round_mono}
use Rattle.std.specs.Float.Ieee.Positive.{num, den, den_pos, first_pos}
use Rattle.floats.specs.Binary64.{◌⊖◌, 0f, -0f, max, is_sign_negative}
use Rattle.floats.specs.Order.{plus_zero, minus_zero, passed, negated, lt_le, lt_or_le, lt→le, eq→le, eq_sym, eq_of_le}
use Rattle.floats.specs.Order.{lt_self_false, lt_false_of_le, le_of_lt_true, le_of_lt_false}
use Rattle.floats.specs.Exact.{whole_units, round_zero}
use Rattle.floats.specs.Sign.{lt_neg, round_neg}
use Rattle.floats.specs.Plain.{plain, plain_finite, plain_not_nan, value_plain, value_cross, lt→cross, le→cross}
use Rattle.floats.specs.Plain.{cross→lt, sub_is, sub_is_under}
use Rattle.floats.specs.Functions.{max_second}
use Rattle.floats.specs.Upto.{Upto, upto_zero, upto_max, upto_sub, upto_not_nan}

-- ---- a difference that is not zero is one of the smallest values at least

one_unit : (a p b q l X Y : ℕ) → 0 < l → a * l ≡ X * p → b * l ≡ Y * q → b * p < a * q
    → 1 * (p * q) ≤ (a * q - b * p) * l
one_unit a p b q l X Y L u v h =
    let x : a * q * l ≡ X * (p * q) = mul_right_comm a q l ∙ ap (λ (z : ℕ). z * q) u ∙ mul_assoc X p q in
    let y : b * p * l ≡ Y * (p * q) =
    mul_right_comm b p l ∙ ap (λ (z : ℕ). z * p) v ∙ mul_assoc Y q p ∙ ap (λ (z : ℕ). Y * z) (mul_comm q p) in
    let k : Y < X = lt_of_mul-lt-mul_right (p * q) (rw (← x, ← y) (mul-lt-mul_of_pos_right h L)) in
    let d : (X - Y) * (p * q) ≡ (a * q - b * p) * l =
    mul_comm (X - Y) (p * q) ∙ mul-sub (p * q) X Y
    ∙ ap (λ (z : ℕ). z - p * q * Y) (mul_comm (p * q) X ∙ sym x ∙ mul_comm (a * q) l)
    ∙ ap (λ (z : ℕ). l * (a * q) - z) (mul_comm (p * q) Y ∙ sym y ∙ mul_comm (b * p) l)
    ∙ sym (mul-sub l (a * q) (b * p)) ∙ mul_comm l (a * q - b * p) in
    le_trans (mul-le-mul_right (p * q) (gap Y X k)) (le_of_eq d)
  where
    gap : (m n : ℕ) → m < n → 1 ≤ n - m
    gap m n g = omega arith

-- the unit, 2 ^ -1074, and the value that it is
abbrev unit : ℕ
unit = 2 ^ low binary64

smallest : HasValue (round binary64 false 1 unit) false 1 unit
smallest = round_exact binary64 false 1 unit 1 0 (pow_pos (low binary64)) (lit< tt) (lit< tt) refl

value_above : (x : Float) (c : ℕ) → HasValue x false 1 c → T (lt plus_zero x)
value_above x c v =
    let n : 0 < num x =
    first_pos (num x) c (subst (λ (z : ℕ). 0 < z) (sym (value_cross x false 1 c v))
    (mul-pos (zero-lt-suc 0) (den_pos x))) in
    cross→lt plus_zero x tt (value_plain x 1 c v) (more (num x) (den x) n)
  where
    more : (a c : ℕ) → 0 < a → 0 * c < a * 1
    more a c h = omega arith

rounded_above : (a c : ℕ) → 0 < c → 1 * c ≤ a * unit → T (lt plus_zero (round binary64 false a c))
rounded_above a c C h =
    lt_le plus_zero (round binary64 false 1 unit) (round binary64 false a c)
    (value_above (round binary64 false 1 unit) unit smallest)
    (round_mono binary64 1 unit a c (pow_pos (low binary64)) C h)

-- ---- the three cases

sub_of_lt : (x y : Float) → T (plain x) → T (plain y) → T (fits binary64 x) → T (fits binary64 y) → T (lt y x)
    → T (lt plus_zero (x ⊖ y))
sub_of_lt x y p q h k g =
    let X = whole_units binary64 x (plain_finite x p) h in
    let Y = whole_units binary64 y (plain_finite y q) k in
    let gap =
    one_unit (num x) (den x) (num y) (den y) unit X.0 Y.0 (pow_pos (low binary64)) X.1 Y.1
    (lt→cross y x q p g) in
    subst (λ (z : Float). T (lt plus_zero z)) (sym (sub_is x y p q (lt→le y x g)))
    (rounded_above (num x * den y - num y * den x) (den x * den y) (mul-pos (den_pos x) (den_pos y)) gap)

sub_of_eq : (x y : Float) → T (plain x) → T (plain y) → T (eq x y) → x ⊖ y ≡ 0f
unfolding of_bits
sub_of_eq x y p q g =
    sub_is x y p q (eq→le y x (eq_sym x y g))
    ∙ ap (λ (z : ℕ). round binary64 false z (den x * den y))
    (nothing (num x * den y) (num y * den x) (le→cross x y p q (eq→le x y g)))
    ∙ round_zero binary64 false (den x * den y) (mul-pos (den_pos x) (den_pos y))
  where
    nothing : (a b : ℕ) → a ≤ b → a - b ≡ 0
    nothing a b l = omega arith

swapped : (x y : Float) → T (plain x) → T (plain y) → T (lt x y) → x ⊖ y ≡ neg (y ⊖ x)
swapped x y p q h =
    sub_is_under x y p q h
    ∙ round_neg binary64 (num y * den x - num x * den y) (den x * den y)
    ∙ ap (λ (z : ℕ). neg (round binary64 false (num y * den x - num x * den y) z)) (mul_comm (den x) (den y))
    ∙ ap neg (sym (sub_is y x q p (lt→le x y h)))

sub_of_gt : (x y : Float) → T (plain x) → T (plain y) → T (fits binary64 x) → T (fits binary64 y) → T (lt x y)
    → T (lt (x ⊖ y) plus_zero)
sub_of_gt x y p q h k g =
    subst (λ (z : Float). T (lt z plus_zero)) (sym (swapped x y p q g))
    (lt_le (neg (y ⊖ x)) (neg plus_zero) plus_zero (lt_neg plus_zero (y ⊖ x) (sub_of_lt y x q p k h g))
    (unfold le neg in tt))

-- ---- the laws

data Trichotomy (x y : Float) : Type 0 where
  under : T (lt x y) → Trichotomy x y
  level : T (eq x y) → Trichotomy x y
  over : T (lt y x) → Trichotomy x y

module _ (x y : Float) (p : T (plain x)) (q : T (plain y)) (h : T (fits binary64 x)) (k : T (fits binary64 y)) where
  ordered : Trichotomy x y
  ordered =
      let n = negated (is_nan x) (plain_not_nan x p) in
      let m = negated (is_nan y) (plain_not_nan y q) in
      elim (lt_or_le x y n m) [
        | inl g ↦ under g
        | inr g ↦ elim (lt_or_le y x m n) [ inl f ↦ over f | inr f ↦ level (eq_of_le x y f g) ]
      ]

  -- x - y is above zero exactly where y < x.
  pub sub_above : lt 0f (x ⊖ y) ≡ lt y x
  unfolding of_bits
  sub_above = go ordered
    where
      go : Trichotomy x y → lt plus_zero (x ⊖ y) ≡ lt y x
      go (under g) =
          lt_false_of_le (x ⊖ y) plus_zero
          (is_true (le (x ⊖ y) plus_zero) (lt→le (x ⊖ y) plus_zero (sub_of_gt x y p q h k g)))
          ∙ sym (lt_false_of_le x y (is_true (le x y) (lt→le x y g)))
      go (level g) =
          rw (sub_of_eq x y p q g) (lt_self_false plus_zero ∙ sym (lt_false_of_le x y (is_true (le x y) (eq→le x y g))))
      go (over g) = is_true (lt plus_zero (x ⊖ y)) (sub_of_lt x y p q h k g) ∙ sym (is_true (lt y x) g)

  -- It is below zero exactly where x < y.
  pub sub_below : lt (x ⊖ y) 0f ≡ lt x y
  unfolding of_bits
  sub_below = go ordered
    where
      go : Trichotomy x y → lt (x ⊖ y) plus_zero ≡ lt x y
      go (under g) = is_true (lt (x ⊖ y) plus_zero) (sub_of_gt x y p q h k g) ∙ sym (is_true (lt x y) g)
      go (level g) =
          rw (sub_of_eq x y p q g)
          (lt_self_false plus_zero ∙ sym (lt_false_of_le y x (is_true (le y x) (eq→le y x (eq_sym x y g)))))
      go (over g) =
          lt_false_of_le plus_zero (x ⊖ y)
          (is_true (le plus_zero (x ⊖ y)) (lt→le plus_zero (x ⊖ y) (sub_of_lt x y p q h k g)))
          ∙ sym (lt_false_of_le y x (is_true (le y x) (lt→le y x g)))

  -- It is +0 where they are equal.
  pub sub_equal : eq x y ≡ true → x ⊖ y ≡ 0f
  sub_equal g = sub_of_eq x y p q (passed (eq x y) g)

  -- Where x < y it is the other difference with its sign changed.
  pub sub_swap : lt x y ≡ true → x ⊖ y ≡ neg (y ⊖ x)
  sub_swap g = swapped x y p q (passed (lt x y) g)

  -- It is never -0.
  pub sub_not_minus_zero : x ⊖ y ≡ -0f → ⊥
  unfolding neg is_sign_negative of_bits
  sub_not_minus_zero z = go ordered
    where
      go : Trichotomy x y → ⊥
      go (under g) = unfold lt in subst (λ (w : Float). T (lt w plus_zero)) z (sub_of_gt x y p q h k g)
      go (level g) = signs (sym (sub_of_eq x y p q g) ∙ z)
        where
          signs : plus_zero ≡ minus_zero → ⊥
          signs e = true≢false (sym (ap is_sign_negative e))
      go (over g) = unfold lt in subst (λ (w : Float). T (lt plus_zero w)) z (sub_of_lt x y p q h k g)

-- ---- `max(x - y, 0)`

-- It is x - y or +0, so it has x's bound.
pub upto_late : {k a j b : ℕ} {x y : Float} → Upto k a x → Upto j b y → k ≤ 970 → a ≤ 2 ^ 53
    → Upto k a (max (x ⊖ y) 0f)
upto_late {k} {a} {j} {b} {x} {y} u v h l = go (lt x y) refl
  where
    go : (t : Bool) → lt x y ≡ t → Upto k a (max (x ⊖ y) 0f)
    go true e =
        subst (λ (z : Float). Upto k a z)
        (sym (max_second (x ⊖ y) 0f
        (sub_above x y u.clear v.clear u.held v.held ∙ lt_false_of_le x y (le_of_lt_true x y e))
        (upto_not_nan (upto_zero k a))))
        (upto_zero k a)
    go false e =
        upto_max (upto_sub u v (le_of_lt_false x y (upto_not_nan u) (upto_not_nan v) e) h l) (upto_zero k a)

-- For sums, differences, products and quotients of plain values: the numbers with the sign clear, zero and above, not
-- -0. On these the order is that of the fractions num / den, and each operation is one rounding of a fraction
-- (`add_is`, `sub_is`, `mul_is`, `div_is`). So a sum is at least each of its terms, products and quotients keep the
-- order, and a zero adds nothing. Assumes nothing.
use Rattle.std.specs.Prelude.{◌≡◌, refl, ℕ, ◌+◌, ◌-◌, ◌*◌, ◌≤◌, ◌<◌, Bool, true, false, not, cond, ℤ, T, ltb, eqb, Float}
use Rattle.std.proofs.Common.{sym, ap, ◌∙◌, subst, add-zero, add_comm, zero-add, zero-mul, one-mul, mul-one, mul_assoc, mul_comm, mul_left_comm, mul-le-mul, mul-pos, mul-le-mul_right, le-add_right, le_of_eq, le_trans, le_refl, le_antisymm, not-le_of_lt, arith, ltb→lt, nltb→le, eqb→eq}
use Rattle.std.proofs.Math.Nat.{mul-mul-mul_comm}
use Rattle.std.specs.Float.{nan, inf, fin, binary64}
use Rattle.std.specs.Float.Ieee.{up, down, round, sum, add, sub, mul, div, neg, lt, le, eq, fits, is_nan, of_bits}
use Rattle.std.specs.Float.Ieee.Fits.{down_pos}
use Rattle.std.specs.Float.Ieee.Exact.{HasValue}
use Rattle.std.specs.Float.Ieee.Scale.{finite, round_same}
use Rattle.std.specs.Float.Ieee.Order.{round_mono}
use Rattle.std.specs.Float.Ieee.Positive.{num, den, den_pos}
use Rattle.floats.specs.Binary64.{◌⊕◌, ◌⊖◌, ◌⊗◌, ◌⊘◌, 0f, -0f}
use Rattle.floats.specs.Order.{plus_zero, le→AtMost, AtMost→le, lt→Less, Less→lt, eq→le, eq_sym}
use Rattle.floats.specs.Exact.{unique, round_own}
use Rattle.floats.specs.Sign.{Sign}

-- a number whose sign is clear
abbrev pub plain : Float → Bool
plain nan = false
plain (inf s) = false
plain (fin s m e) = not s

pub plain_finite : (x : Float) → T (plain x) → T (finite x)
plain_finite nan p = absurd p
plain_finite (inf s) p = absurd p
plain_finite (fin s m e) p = tt

pub plain_not_nan : (x : Float) → T (plain x) → is_nan x ≡ false
unfolding is_nan
plain_not_nan nan p = absurd p
plain_not_nan (inf s) p = absurd p
plain_not_nan (fin s m e) p = refl

pub plain_sign : (x : Float) → T (plain x) → Sign false x
plain_sign nan p = absurd p
plain_sign (inf s) p = absurd p
plain_sign (fin true m e) p = absurd p
plain_sign (fin false m e) p = refl

-- ---- the order is that of the fractions

drop_zeros : (a b c d : ℕ) → a + 0 * b ≤ c + 0 * d → a ≤ c
drop_zeros a b c d h = omega arith

put_zeros : (a b c d : ℕ) → a ≤ c → a + 0 * b ≤ c + 0 * d
put_zeros a b c d h = omega arith

pub le→cross : (x y : Float) → T (plain x) → T (plain y) → T (le x y) → num x * den y ≤ num y * den x
le→cross nan y p q h = absurd p
le→cross (inf s) y p q h = absurd p
le→cross (fin true m e) y p q h = absurd p
le→cross (fin false m e) nan p q h = absurd q
le→cross (fin false m e) (inf t) p q h = absurd q
le→cross (fin false m e) (fin true n d) p q h = absurd q
le→cross (fin false m e) (fin false n d) p q h =
    drop_zeros (m * up e * down d) (down e) (n * up d * down e) (down d) (le→AtMost false m e false n d h)

pub cross→le : (x y : Float) → T (plain x) → T (plain y) → num x * den y ≤ num y * den x → T (le x y)
cross→le nan y p q h = absurd p
cross→le (inf s) y p q h = absurd p
cross→le (fin true m e) y p q h = absurd p
cross→le (fin false m e) nan p q h = absurd q
cross→le (fin false m e) (inf t) p q h = absurd q
cross→le (fin false m e) (fin true n d) p q h = absurd q
cross→le (fin false m e) (fin false n d) p q h =
    AtMost→le false m e false n d (put_zeros (m * up e * down d) (down e) (n * up d * down e) (down d) h)

drop_zeros_lt : (a b c d : ℕ) → a + 0 * b < c + 0 * d → a < c
drop_zeros_lt a b c d h = omega arith

put_zeros_lt : (a b c d : ℕ) → a < c → a + 0 * b < c + 0 * d
put_zeros_lt a b c d h = omega arith

pub lt→cross : (x y : Float) → T (plain x) → T (plain y) → T (lt x y) → num x * den y < num y * den x
lt→cross nan y p q h = absurd p
lt→cross (inf s) y p q h = absurd p
lt→cross (fin true m e) y p q h = absurd p
lt→cross (fin false m e) nan p q h = absurd q
lt→cross (fin false m e) (inf t) p q h = absurd q
lt→cross (fin false m e) (fin true n d) p q h = absurd q
lt→cross (fin false m e) (fin false n d) p q h =
    drop_zeros_lt (m * up e * down d) (down e) (n * up d * down e) (down d) (lt→Less false m e false n d h)

pub cross→lt : (x y : Float) → T (plain x) → T (plain y) → num x * den y < num y * den x → T (lt x y)
cross→lt nan y p q h = absurd p
cross→lt (inf s) y p q h = absurd p
cross→lt (fin true m e) y p q h = absurd p
cross→lt (fin false m e) nan p q h = absurd q
cross→lt (fin false m e) (inf t) p q h = absurd q
cross→lt (fin false m e) (fin true n d) p q h = absurd q
cross→lt (fin false m e) (fin false n d) p q h =
    Less→lt false m e false n d (put_zeros_lt (m * up e * down d) (down e) (n * up d * down e) (down d) h)

-- ---- values and fractions

-- A plain value is its fraction, rounded.
pub own : (x : Float) → T (plain x) → T (fits binary64 x) → round binary64 false (num x) (den x) ≡ x
own nan p q = absurd p
own (inf s) p q = absurd p
own (fin true m e) p q = absurd p
own (fin false m e) p q = round_own binary64 false m e q

pub value_plain : (x : Float) (a c : ℕ) → HasValue x false a c → T (plain x)
value_plain nan a c v = absurd v
value_plain (inf s) a c v = absurd v
value_plain (fin s m e) a c v = subst (λ (t : Bool). T (not t)) (sym v.0) tt

pub value_cross : (x : Float) (s : Bool) (a c : ℕ) → HasValue x s a c → num x * c ≡ a * den x
value_cross nan s a c v = absurd v
value_cross (inf t) s a c v = absurd v
value_cross (fin t m e) s a c v = v.1

cross→value : (x y : Float) → T (plain x) → T (plain y) → num x * den y ≡ num y * den x
    → HasValue x false (num y) (den y)
cross→value nan y p q h = absurd p
cross→value (inf s) y p q h = absurd p
cross→value (fin true m e) y p q h = absurd p
cross→value (fin false m e) y p q h = (refl, h)

-- Two plain values that compare equal are one value.
pub same_of_eq : (x y : Float) → T (plain x) → T (plain y) → T (fits binary64 x) → T (fits binary64 y) → T (eq x y)
    → x ≡ y
same_of_eq x y p q h k e =
    unique binary64 x y false (num y) (den y) (den_pos y) h k
    (cross→value x y p q (le_antisymm (le→cross x y p q (eq→le x y e)) (le→cross y x q p (eq→le y x (eq_sym x y e)))))
    (cross→value y y q q refl)

-- ---- each operation as one rounding

pub add_is : (x y : Float) → T (plain x) → T (plain y)
    → x ⊕ y ≡ round binary64 false (num x * den y + num y * den x) (den x * den y)
unfolding add
add_is nan y p q = absurd p
add_is (inf s) y p q = absurd p
add_is (fin true m e) y p q = absurd p
add_is (fin false m e) nan p q = absurd q
add_is (fin false m e) (inf t) p q = absurd q
add_is (fin false m e) (fin true n d) p q = absurd q
add_is (fin false m e) (fin false n d) p q = refl

pub mul_is : (x y : Float) → T (plain x) → T (plain y) → x ⊗ y ≡ round binary64 false (num x * num y) (den x * den y)
unfolding mul
mul_is nan y p q = absurd p
mul_is (inf s) y p q = absurd p
mul_is (fin true m e) y p q = absurd p
mul_is (fin false m e) nan p q = absurd q
mul_is (fin false m e) (inf t) p q = absurd q
mul_is (fin false m e) (fin true n d) p q = absurd q
mul_is (fin false m e) (fin false n d) p q = refl

opened : (m : ℕ) (e : ℤ) (n : ℕ) (d : ℤ)
    → fin false m e ⊖ fin false n d ≡ sum binary64 false (m * up e * down d) true (n * up d * down e) (down e * down d)
unfolding sub
opened m e n d = refl

differ : (a b c : ℕ) → b ≤ a → sum binary64 false a true b c ≡ round binary64 false (a - b) c
unfolding sum
differ a b c h = go (ltb a b) (ltb→lt a b)
  where
    go : (t : Bool) → (T t → a < b)
        → cond t (round binary64 true (b - a) c) (round binary64 false (a - b) c) ≡ round binary64 false (a - b) c
    go true k = absurd (not-le_of_lt (k tt) h)
    go false k = refl

differ_under : (a b c : ℕ) → a < b → sum binary64 false a true b c ≡ round binary64 true (b - a) c
unfolding sum
differ_under a b c h = go (ltb a b) (nltb→le a b)
  where
    go : (t : Bool) → (T (not t) → b ≤ a)
        → cond t (round binary64 true (b - a) c) (round binary64 false (a - b) c) ≡ round binary64 true (b - a) c
    go true k = refl
    go false k = absurd (not-le_of_lt h (k tt))

-- where y ≤ x
pub sub_is : (x y : Float) → T (plain x) → T (plain y) → T (le y x)
    → x ⊖ y ≡ round binary64 false (num x * den y - num y * den x) (den x * den y)
sub_is nan y p q h = absurd p
sub_is (inf s) y p q h = absurd p
sub_is (fin true m e) y p q h = absurd p
sub_is (fin false m e) nan p q h = absurd q
sub_is (fin false m e) (inf t) p q h = absurd q
sub_is (fin false m e) (fin true n d) p q h = absurd q
sub_is (fin false m e) (fin false n d) p q h =
    opened m e n d
    ∙ differ (m * up e * down d) (n * up d * down e) (down e * down d) (le→cross (fin false n d) (fin false m e) q p h)

-- where x < y: the result has its sign set
pub sub_is_under : (x y : Float) → T (plain x) → T (plain y) → T (lt x y)
    → x ⊖ y ≡ round binary64 true (num y * den x - num x * den y) (den x * den y)
sub_is_under nan y p q h = absurd p
sub_is_under (inf s) y p q h = absurd p
sub_is_under (fin true m e) y p q h = absurd p
sub_is_under (fin false m e) nan p q h = absurd q
sub_is_under (fin false m e) (inf t) p q h = absurd q
sub_is_under (fin false m e) (fin true n d) p q h = absurd q
sub_is_under (fin false m e) (fin false n d) p q h =
    opened m e n d
    ∙ differ_under (m * up e * down d) (n * up d * down e) (down e * down d)
    (lt→cross (fin false m e) (fin false n d) p q h)

no_zero : (n u : ℕ) → 0 < n * u → n ≡ 0 → ⊥
no_zero n u h z = clash (n * u) h (ap (λ (k : ℕ). k * u) z ∙ zero-mul u)
  where
    clash : (a : ℕ) → 0 < a → a ≡ 0 → ⊥
    clash a g e = omega arith

-- where y is above zero
pub div_is : (x y : Float) → T (plain x) → T (plain y) → 0 < num y
    → x ⊘ y ≡ round binary64 false (num x * den y) (num y * den x)
unfolding div
div_is nan y p q h = absurd p
div_is (inf s) y p q h = absurd p
div_is (fin true m e) y p q h = absurd p
div_is (fin false m e) nan p q h = absurd q
div_is (fin false m e) (inf t) p q h = absurd q
div_is (fin false m e) (fin true n d) p q h = absurd q
div_is (fin false m e) (fin false n d) p q h =
    go (eqb n 0) (eqb→eq n 0) (round binary64 false (m * up e * down d) (n * up d * down e))
  where
    go : (b : Bool) → (T b → n ≡ 0) → (r : Float) → cond b (cond (eqb m 0) nan (inf false)) r ≡ r
    go true z r = absurd (no_zero n (up d) h (z tt))
    go false z r = refl

-- ---- a sum of plain values

pub add_swap : (x y : Float) → T (plain x) → T (plain y) → x ⊕ y ≡ y ⊕ x
add_swap x y p q =
    add_is x y p q
    ∙ ap (λ (z : ℕ). round binary64 false z (den x * den y)) (add_comm (num x * den y) (num y * den x))
    ∙ ap (λ (z : ℕ). round binary64 false (num y * den x + num x * den y) z) (mul_comm (den x) (den y))
    ∙ sym (add_is y x q p)

first_term : (a p b q : ℕ) → a * (p * q) ≤ (a * q + b * p) * p
first_term a p b q =
    le_trans (le_of_eq (simp (mul_assoc, mul_comm))) (mul-le-mul_right p (le-add_right (a * q) (b * p)))

-- A sum is at least each of its terms.
pub add_ge_left : (x y : Float) → T (plain x) → T (plain y) → T (fits binary64 x) → T (le x (x ⊕ y))
add_ge_left x y p q h =
    subst (λ (z : Float). T (le z (x ⊕ y))) (own x p h)
    (rw (add_is x y p q)
    (round_mono binary64 (num x) (den x) (num x * den y + num y * den x) (den x * den y)
    (den_pos x) (mul-pos (den_pos x) (den_pos y)) (first_term (num x) (den x) (num y) (den y))))

pub add_ge_right : (x y : Float) → T (plain x) → T (plain y) → T (fits binary64 y) → T (le y (x ⊕ y))
add_ge_right x y p q h = rw (add_swap x y p q) (add_ge_left y x q p h)

-- ---- zeros add nothing

flat : (a c : ℕ) → (a * 1 + 0 * c) * c ≡ a * (c * 1)
flat a c = simp (mul-one, zero-mul, add-zero)

pub add_zero_right : (x : Float) → T (plain x) → T (fits binary64 x) → x ⊕ 0f ≡ x
unfolding of_bits
add_zero_right x p h =
    add_is x plus_zero p tt
    ∙ round_same binary64 false (num x * 1 + 0 * den x) (den x * 1) (num x) (den x)
    (mul-pos (den_pos x) (le_refl 1)) (den_pos x) (flat (num x) (den x))
    ∙ own x p h

pub add_zero_left : (x : Float) → T (plain x) → T (fits binary64 x) → 0f ⊕ x ≡ x
unfolding of_bits
add_zero_left x p h = add_swap plus_zero x tt p ∙ add_zero_right x p h

-- -0 adds nothing to any value: a / c + 0 / c and 0 / c + a / c, whatever the signs.
less_nothing : (a b : ℕ) → b ≡ 0 → a - b ≡ a
less_nothing a b z = omega arith

not_below_nothing : (a b : ℕ) → b ≡ 0 → a < b → ⊥
not_below_nothing a b z h = omega arith

nothing_less : (a b : ℕ) → b ≡ 0 → a ≤ b → b - a ≡ a
nothing_less a b z h = omega arith

onto_nothing : (s : Bool) (a b c : ℕ) → b ≡ 0 → sum binary64 s a true b c ≡ round binary64 s a c
unfolding sum
onto_nothing true a b c z = ap (λ (w : ℕ). round binary64 true w c) (ap (λ (w : ℕ). a + w) z ∙ add-zero a)
onto_nothing false a b c z = go (ltb a b) (ltb→lt a b)
  where
    go : (t : Bool) → (T t → a < b)
        → cond t (round binary64 true (b - a) c) (round binary64 false (a - b) c) ≡ round binary64 false a c
    go true k = absurd (not_below_nothing a b z (k tt))
    go false k = ap (λ (w : ℕ). round binary64 false w c) (less_nothing a b z)

from_nothing : (s : Bool) (a b c : ℕ) → b ≡ 0 → sum binary64 true b s a c ≡ round binary64 s a c
unfolding sum
from_nothing true a b c z = ap (λ (w : ℕ). round binary64 true w c) (ap (λ (w : ℕ). w + a) z ∙ zero-add a)
from_nothing false a b c z = go (ltb b a) (ltb a b) (nltb→le b a) (ltb→lt a b)
  where
    go : (t u : Bool) → (T (not t) → a ≤ b) → (T u → a < b)
        → cond t (round binary64 false (a - b) c) (round binary64 u (b - a) c) ≡ round binary64 false a c
    go true u k l = ap (λ (w : ℕ). round binary64 false w c) (less_nothing a b z)
    go false true k l = absurd (not_below_nothing a b z (l tt))
    go false false k l = ap (λ (w : ℕ). round binary64 false w c) (nothing_less a b z (k tt))

one_factor : (a c : ℕ) → a * 1 * c ≡ a * (c * 1)
one_factor a c = simp mul-one

factor_one : (a c : ℕ) → a * 1 * c ≡ a * (1 * c)
factor_one a c = simp (mul-one, one-mul)

pub add_minus_zero_right : (x : Float) → T (fits binary64 x) → x ⊕ -0f ≡ x
unfolding add neg of_bits
add_minus_zero_right nan h = refl
add_minus_zero_right (inf s) h = refl
add_minus_zero_right (fin s m e) h =
    onto_nothing s (m * up e * 1) (0 * down e) (down e * 1) (zero-mul (down e))
    ∙ round_same binary64 s (m * up e * 1) (down e * 1) (m * up e) (down e)
    (mul-pos (down_pos e) (le_refl 1)) (down_pos e) (one_factor (m * up e) (down e))
    ∙ round_own binary64 s m e h

pub add_minus_zero_left : (x : Float) → T (fits binary64 x) → -0f ⊕ x ≡ x
unfolding add neg of_bits
add_minus_zero_left nan h = refl
add_minus_zero_left (inf s) h = refl
add_minus_zero_left (fin s m e) h =
    from_nothing s (m * up e * 1) (0 * down e) (1 * down e) (zero-mul (down e))
    ∙ round_same binary64 s (m * up e * 1) (1 * down e) (m * up e) (down e)
    (mul-pos (le_refl 1) (down_pos e)) (down_pos e) (factor_one (m * up e) (down e))
    ∙ round_own binary64 s m e h

pub sub_zero_right : (x : Float) → T (fits binary64 x) → x ⊖ 0f ≡ x
unfolding sub of_bits
sub_zero_right x h = add_minus_zero_right x h

-- ---- products and quotients keep the order

pub mul_mono : (x x' y y' : Float) → T (plain x) → T (plain x') → T (plain y) → T (plain y') → T (le x x')
    → T (le y y') → T (le (x ⊗ y) (x' ⊗ y'))
mul_mono x x' y y' p p' q q' h k =
    rw (mul_is x y p q, mul_is x' y' p' q')
    (round_mono binary64 (num x * num y) (den x * den y) (num x' * num y') (den x' * den y')
    (mul-pos (den_pos x) (den_pos y)) (mul-pos (den_pos x') (den_pos y'))
    (le_trans (le_of_eq (mul-mul-mul_comm (num x) (num y) (den x') (den y')))
    (le_trans (mul-le-mul (le→cross x x' p p' h) (le→cross y y' q q' k))
    (le_of_eq (mul-mul-mul_comm (num x') (den x) (num y') (den y))))))

ratio : (a p a' p' b q b' q' : ℕ) → a * p' ≤ a' * p → b' * q ≤ b * q' → a * q * (b' * p') ≤ a' * q' * (b * p)
ratio a p a' p' b q b' q' h k =
    le_trans (le_of_eq (simp (mul_assoc, mul_comm, mul_left_comm)))
    (le_trans (mul-le-mul h k) (le_of_eq (simp (mul_assoc, mul_comm, mul_left_comm))))

-- x / y grows with x, and shrinks as y grows.
pub div_mono : (x x' y y' : Float) → T (plain x) → T (plain x') → T (plain y) → T (plain y') → 0 < num y → 0 < num y'
    → T (le x x') → T (le y' y) → T (le (x ⊘ y) (x' ⊘ y'))
div_mono x x' y y' p p' q q' n n' h k =
    rw (div_is x y p q n, div_is x' y' p' q' n')
    (round_mono binary64 (num x * den y) (num y * den x) (num x' * den y') (num y' * den x')
    (mul-pos n (den_pos x)) (mul-pos n' (den_pos x'))
    (ratio (num x) (den x) (num x') (den x') (num y) (den y) (num y') (den y') (le→cross x x' p p' h)
    (le→cross y' y q' q k)))

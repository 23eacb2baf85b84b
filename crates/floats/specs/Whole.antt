-- For problems in whole numbers: `nat n` is n `as f64`, and up to 2 ^ 53 sums, differences, products, comparisons,
-- `max` and `min` of such floats are those of the natural numbers. A sum or a product may lie above 2 ^ 53: it is then
-- that number's own rounding, as `nat` has it. Assumes nothing.
use Rattle.std.specs.Prelude.{◌≡◌, refl, List, [], ◌∷◌, map, ℕ, ◌+◌, ◌-◌, ◌*◌, ◌^◌, ◌≤◌, ◌<◌, max as larger, min as smaller, Bool, true, not, cond, pos, T, leb, ltb, eqb, Float}
use Rattle.std.proofs.Common.{sym, ap, ◌∙◌, add-zero, add_assoc, zero-lt-suc, add-mul, mul-one, mul_assoc, mul_comm, mul-pos, sub-le, mul-le-mul_right, le_of_mul-le-mul_right, le_of_eq, le_trans, le_antisymm, le_of_lt, lt_of_le_of_lt, arith, lt→ltb, leb→le, ltb→lt, nltb→le, eqb→eq, lit<}
use Rattle.std.proofs.Math.Nat.{mul-mul-mul_comm, mul-sub}
use Rattle.std.proofs.Math.Bool.{false}
use Rattle.std.proofs.Math.Dec.{le→leb, nleb→lt, not_T}
use Rattle.std.specs.Float.Ieee.{binary64, round, neg, lt, le, eq, fits, is_nan, of_int, of_bits, in_float, in_unsigned, to_unsigned}
use Rattle.std.specs.Float.Ieee.Fits.{of_int-fits, eq→eqb}
use Rattle.std.specs.Float.Ieee.Exact.{HasValue}
use Rattle.std.specs.Float.Ieee.Bits.{is_true}
use Rattle.std.specs.Float.Ieee.Back.{round_whole, unsigned_back}
use Rattle.std.specs.Float.Ieee.Scale.{round_same}
use Rattle.std.specs.Float.Ieee.Positive.{num, den, den_pos}
use Rattle.floats.specs.Binary64.{◌⊕◌, ◌⊖◌, ◌⊗◌, 0f, max, min, abs}
use Rattle.floats.specs.Order.{same_test, negated, lt_is, eq→le, eq_sym, eq_of_le}
use Rattle.floats.specs.Exact.{round_zero}
use Rattle.floats.specs.Plain.{plain, plain_not_nan, value_plain, value_cross, le→cross, cross→le, add_is, sub_is}
use Rattle.floats.specs.Plain.{mul_is}
use Rattle.floats.specs.Functions.{max_first, max_second, min_first, min_second, abs_plain}
use Rattle.floats.specs.Upto.{Upto, upto_not_nan, upto_zero}
use Rattle.floats.specs.Difference.{sub_above, sub_swap}
use Rattle.floats.specs.Sums.{sum_from}

-- Rust's `n as f64`
abbrev pub nat : ℕ → Float
nat n = of_int binary64 (pos n)

nat_is : (n : ℕ) → nat n ≡ round binary64 false n 1
unfolding of_int
nat_is n = refl

pub nat_zero : nat 0 ≡ 0f
unfolding of_bits
nat_zero = nat_is 0 ∙ round_zero binary64 false 1 (zero-lt-suc 0)

pub nat_fits : (n : ℕ) → T (fits binary64 (nat n))
nat_fits n = of_int-fits binary64 (pos n)

module _ (n : ℕ) (N : n ≤ 2 ^ 53) where
  nat_value : HasValue (nat n) false n 1
  unfolding of_int
  nat_value = round_whole binary64 false n N

  pub nat_plain : T (plain (nat n))
  nat_plain = value_plain (nat n) n 1 nat_value

  nat_num : num (nat n) ≡ n * den (nat n)
  nat_num = sym (mul-one (num (nat n))) ∙ value_cross (nat n) false n 1 nat_value

  pub nat_upto : Upto 0 n (nat n)
  nat_upto =
      record {
        clear = nat_plain;
        held = nat_fits n;
        most = le_of_eq (nat_num ∙ ap (λ (z : ℕ). z * den (nat n)) (sym (mul-one n)));
      }

  pub nat_not_nan : is_nan (nat n) ≡ false
  nat_not_nan = plain_not_nan (nat n) nat_plain

  pub abs_nat : abs (nat n) ≡ nat n
  abs_nat = abs_plain (nat n) nat_plain

  -- `nat n as u64` is n.
  pub nat_back : T (in_unsigned binary64 64 (nat n)) × (to_unsigned 64 (nat n) ≡ n)
  nat_back = unsigned_back binary64 64 n (unfold in_float in le→leb n (2 ^ 53) N) (lt_of_le_of_lt N (lit< tt))

-- ---- the order

module _ (a b : ℕ) (A : a ≤ 2 ^ 53) (B : b ≤ 2 ^ 53) where
  nat_le→ : T (le (nat a) (nat b)) → a ≤ b
  nat_le→ h =
      let x = nat a in
      let y = nat b in
      le_of_mul-le-mul_right
      (le_trans (le_of_eq (sym (mul_assoc a (den x) (den y)) ∙ ap (λ (z : ℕ). z * den y) (sym (nat_num a A))))
      (le_trans (le→cross x y (nat_plain a A) (nat_plain b B) h)
      (le_of_eq (ap (λ (z : ℕ). z * den x) (nat_num b B) ∙ mul_assoc b (den y) (den x)
      ∙ ap (λ (z : ℕ). b * z) (mul_comm (den y) (den x))))))
      (mul-pos (den_pos x) (den_pos y))

  →nat_le : a ≤ b → T (le (nat a) (nat b))
  →nat_le h =
      let x = nat a in
      let y = nat b in
      cross→le x y (nat_plain a A) (nat_plain b B)
      (le_trans (le_of_eq (ap (λ (z : ℕ). z * den y) (nat_num a A) ∙ mul_assoc a (den x) (den y)))
      (le_trans (mul-le-mul_right (den x * den y) h)
      (le_of_eq (ap (λ (z : ℕ). b * z) (mul_comm (den x) (den y)) ∙ sym (mul_assoc b (den y) (den x))
      ∙ ap (λ (z : ℕ). z * den x) (sym (nat_num b B))))))

  pub nat_le : le (nat a) (nat b) ≡ leb a b
  nat_le = same_test (le (nat a) (nat b)) (leb a b) (λ h. le→leb a b (nat_le→ h)) (λ h. →nat_le (leb→le a b h))

clash : (a b : ℕ) → a < b → b ≤ a → ⊥
clash a b h k = omega arith

module _ (a b : ℕ) (A : a ≤ 2 ^ 53) (B : b ≤ 2 ^ 53) where
  pub nat_lt : lt (nat a) (nat b) ≡ ltb a b
  nat_lt =
      lt_is (nat a) (nat b) (negated (is_nan (nat a)) (nat_not_nan a A)) (negated (is_nan (nat b)) (nat_not_nan b B))
      ∙ ap not (nat_le b a B A)
      ∙ same_test (not (leb b a)) (ltb a b)
      (λ h. lt→ltb a b (nleb→lt b a h))
      (λ h. not_T (leb b a) (λ g. clash a b (ltb→lt a b h) (leb→le b a g)))

  pub nat_eq : eq (nat a) (nat b) ≡ eqb a b
  nat_eq =
      let x = nat a in
      let y = nat b in
      same_test (eq x y) (eqb a b)
      (λ h. eq→eqb (le_antisymm (nat_le→ a b A B (eq→le x y h)) (nat_le→ b a B A (eq→le y x (eq_sym x y h)))))
      (λ h. let e = eqb→eq a b h in eq_of_le x y (→nat_le a b A B (le_of_eq e)) (→nat_le b a B A (le_of_eq (sym e))))

-- ---- sums, products and differences

sum_same : (a p b q : ℕ) → (a * p * q + b * q * p) * 1 ≡ (a + b) * (p * q)
sum_same a p b q =
    mul-one (a * p * q + b * q * p)
    ∙ ap (λ (z : ℕ). z + b * q * p) (mul_assoc a p q)
    ∙ ap (λ (z : ℕ). a * (p * q) + z) (mul_assoc b q p ∙ ap (λ (z : ℕ). b * z) (mul_comm q p))
    ∙ sym (add-mul a b (p * q))

difference_same : (a p b q : ℕ) → (a * p * q - b * q * p) * 1 ≡ (a - b) * (p * q)
difference_same a p b q =
    mul-one (a * p * q - b * q * p)
    ∙ ap (λ (z : ℕ). z - b * q * p) (mul_assoc a p q ∙ mul_comm a (p * q))
    ∙ ap (λ (z : ℕ). p * q * a - z) (mul_assoc b q p ∙ ap (λ (z : ℕ). b * z) (mul_comm q p) ∙ mul_comm b (p * q))
    ∙ sym (mul-sub (p * q) a b) ∙ mul_comm (p * q) (a - b)

product_same : (a p b q : ℕ) → a * p * (b * q) * 1 ≡ a * b * (p * q)
product_same a p b q = mul-one (a * p * (b * q)) ∙ mul-mul-mul_comm a p b q

module _ (a b : ℕ) (A : a ≤ 2 ^ 53) (B : b ≤ 2 ^ 53) where
  pub nat_add : nat a ⊕ nat b ≡ nat (a + b)
  nat_add =
      let x = nat a in
      let y = nat b in
      add_is x y (nat_plain a A) (nat_plain b B)
      ∙ round_same binary64 false (num x * den y + num y * den x) (den x * den y) (a + b) 1
      (mul-pos (den_pos x) (den_pos y)) (zero-lt-suc 0)
      (ap (λ (z : ℕ). (z * den y + num y * den x) * 1) (nat_num a A)
      ∙ ap (λ (z : ℕ). (a * den x * den y + z * den x) * 1) (nat_num b B)
      ∙ sum_same a (den x) b (den y))
      ∙ sym (nat_is (a + b))

  pub nat_mul : nat a ⊗ nat b ≡ nat (a * b)
  nat_mul =
      let x = nat a in
      let y = nat b in
      mul_is x y (nat_plain a A) (nat_plain b B)
      ∙ round_same binary64 false (num x * num y) (den x * den y) (a * b) 1 (mul-pos (den_pos x) (den_pos y))
      (zero-lt-suc 0)
      (ap (λ (z : ℕ). z * num y * 1) (nat_num a A) ∙ ap (λ (z : ℕ). a * den x * z * 1) (nat_num b B)
      ∙ product_same a (den x) b (den y))
      ∙ sym (nat_is (a * b))

pub nat_sub : (a b : ℕ) → a ≤ 2 ^ 53 → b ≤ a → nat a ⊖ nat b ≡ nat (a - b)
nat_sub a b A h =
    let B = le_trans h A in
    let x = nat a in
    let y = nat b in
    sub_is x y (nat_plain a A) (nat_plain b B) (→nat_le b a B A h)
    ∙ round_same binary64 false (num x * den y - num y * den x) (den x * den y) (a - b) 1
    (mul-pos (den_pos x) (den_pos y)) (zero-lt-suc 0)
    (ap (λ (z : ℕ). (z * den y - num y * den x) * 1) (nat_num a A)
    ∙ ap (λ (z : ℕ). (a * den x * den y - z * den x) * 1) (nat_num b B)
    ∙ difference_same a (den x) b (den y))
    ∙ sym (nat_is (a - b))

-- a difference below zero
pub nat_sub_under : (a b : ℕ) → b ≤ 2 ^ 53 → a < b → nat a ⊖ nat b ≡ neg (nat (b - a))
nat_sub_under a b B h =
    let A = le_trans (le_of_lt h) B in
    sub_swap (nat a) (nat b) (nat_plain a A) (nat_plain b B) (nat_fits a) (nat_fits b)
    (nat_lt a b A B ∙ is_true (ltb a b) (lt→ltb a b h))
    ∙ ap neg (nat_sub b a B (le_of_lt h))

-- ---- `max` and `min`

larger_left : (a b : ℕ) → b < a → a ≡ larger a b
larger_left a b h = omega arith

larger_right : (a b : ℕ) → a ≤ b → b ≡ larger a b
larger_right a b h = omega arith

smaller_left : (a b : ℕ) → a < b → a ≡ smaller a b
smaller_left a b h = omega arith

smaller_right : (a b : ℕ) → b ≤ a → b ≡ smaller a b
smaller_right a b h = omega arith

module _ (a b : ℕ) (A : a ≤ 2 ^ 53) (B : b ≤ 2 ^ 53) where
  pub nat_max : max (nat a) (nat b) ≡ nat (larger a b)
  nat_max = go (ltb b a) refl (ltb→lt b a) (nltb→le b a)
    where
      go : (t : Bool) → ltb b a ≡ t → (T t → b < a) → (T (not t) → a ≤ b) → max (nat a) (nat b) ≡ nat (larger a b)
      go true e h k = max_first (nat a) (nat b) (nat_lt b a B A ∙ e) ∙ ap nat (larger_left a b (h tt))
      go false e h k =
          max_second (nat a) (nat b) (nat_lt b a B A ∙ e) (nat_not_nan b B) ∙ ap nat (larger_right a b (k tt))

  pub nat_min : min (nat a) (nat b) ≡ nat (smaller a b)
  nat_min = go (ltb a b) refl (ltb→lt a b) (nltb→le a b)
    where
      go : (t : Bool) → ltb a b ≡ t → (T t → a < b) → (T (not t) → b ≤ a) → min (nat a) (nat b) ≡ nat (smaller a b)
      go true e h k = min_first (nat a) (nat b) (nat_lt a b A B ∙ e) ∙ ap nat (smaller_left a b (h tt))
      go false e h k =
          min_second (nat a) (nat b) (nat_lt a b A B ∙ e) (nat_not_nan b B) ∙ ap nat (smaller_right a b (k tt))

-- ---- lateness and waiting: the natural numbers' a - b, which is 0 where b is larger

nothing_left : (a b : ℕ) → a ≤ b → 0 ≡ a - b
nothing_left a b h = omega arith

module _ (a b : ℕ) (A : a ≤ 2 ^ 53) (B : b ≤ 2 ^ 53) where
  -- `(a - b).max(0.0)`
  pub nat_late : max (nat a ⊖ nat b) 0f ≡ nat (a - b)
  nat_late = go (ltb b a) refl (ltb→lt b a) (nltb→le b a)
    where
      above : lt 0f (nat a ⊖ nat b) ≡ ltb b a
      above =
          sub_above (nat a) (nat b) (nat_plain a A) (nat_plain b B) (nat_fits a) (nat_fits b)
          ∙ nat_lt b a B A

      go : (t : Bool) → ltb b a ≡ t → (T t → b < a) → (T (not t) → a ≤ b) → max (nat a ⊖ nat b) 0f ≡ nat (a - b)
      go true e h k = max_first (nat a ⊖ nat b) 0f (above ∙ e) ∙ nat_sub a b A (le_of_lt (h tt))
      go false e h k =
          max_second (nat a ⊖ nat b) 0f (above ∙ e) (upto_not_nan (upto_zero 0 0)) ∙ sym nat_zero
          ∙ ap nat (nothing_left a b (k tt))

  -- `if b < a { a - b } else { 0.0 }`
  pub nat_waiting : cond (lt (nat b) (nat a)) (nat a ⊖ nat b) 0f ≡ nat (a - b)
  nat_waiting = go (ltb b a) (nat_lt b a B A) (ltb→lt b a) (nltb→le b a)
    where
      go : (t : Bool) → lt (nat b) (nat a) ≡ t → (T t → b < a) → (T (not t) → a ≤ b)
          → cond (lt (nat b) (nat a)) (nat a ⊖ nat b) 0f ≡ nat (a - b)
      go true e h k = rw e (nat_sub a b A (le_of_lt (h tt)))
      go false e h k = rw e (sym nat_zero ∙ ap nat (nothing_left a b (k tt)))

back : (a r : ℕ) → a ≤ r → a + (r - a) ≡ r
back a r h = omega arith

-- A wait, a + (r - a), ends at r.
pub nat_wait : (a r : ℕ) → r ≤ 2 ^ 53 → a ≤ r → nat a ⊕ (nat r ⊖ nat a) ≡ nat r
nat_wait a r R h =
    ap (λ (z : Float). nat a ⊕ z) (nat_sub r a R h) ∙ nat_add a (r - a) (le_trans h R) (le_trans (sub-le r a) R)
    ∙ ap nat (back a r h)

-- ---- a sum of whole numbers, while it stays up to 2 ^ 53

-- the sum of a list
abbrev pub total : List ℕ → ℕ
total [] = 0
total (n ∷ ns) = n + total ns

part : (a n t P : ℕ) → a + (n + t) ≤ P → (a ≤ P) × (n ≤ P) × (a + n + t ≤ P)
part a n t P h = (omega arith, omega arith, omega arith)

pub nat_sum : (a : ℕ) (ns : List ℕ) → a + total ns ≤ 2 ^ 53 → sum_from (nat a) (map nat ns) ≡ nat (a + total ns)
unfolding sum_from
nat_sum a [] h = ap nat (sym (add-zero a))
nat_sum a (n ∷ ns) h =
    let l = part a n (total ns) (2 ^ 53) h in
    ap (λ (z : Float). sum_from z (map nat ns)) (nat_add a n l.0 l.1) ∙ nat_sum (a + n) ns l.2
    ∙ ap nat (add_assoc a n (total ns))

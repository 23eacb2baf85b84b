-- For bounds, so that no result overflows or is a NaN. `Upto k n x`: x is a plain f64 of at most n units of 2 ^ k.
-- While the unit stays, a sum adds up the n's and rounding loses nothing: terms of up to a and b units give a sum of up
-- to a + b units, as long as a + b ≤ 2 ^ 53, since n * 2 ^ k is itself an f64 and rounding keeps the order.
-- A product multiplies the n's and adds the k's. Units go up to k = 970: choose one for each kind of quantity, and
-- change it by `upto_as`. Side conditions at literals are `lit≤ tt` of `lib.Dec`. Assumes nothing.
use Rattle.std.specs.Prelude.{◌≡◌, Bool, true, false, cond, pos, T, Float}
use Rattle.std.proofs.Common.{sym, ap, ◌∙◌, subst, zero-lt-suc, add-mul, zero-mul, mul-one, mul_assoc, mul_comm, mul_left_comm, mul_right_comm, mul-pos, mul-le-mul, mul-le-mul_right, mul-le-mul_left, le_of_mul-le-mul_right, add-le-add, sub-le, le_of_eq, le_trans, arith, true≢false, pow-add}
use Prim.Native.Nat.{ℕ, zero, suc, ◌+◌, ◌-◌, ◌*◌, ◌^◌, ◌≤◌, ◌<◌, zero-le}
use Rattle.std.specs.Float.{nan, inf, fin, binary64}
use Rattle.std.specs.Float.Ieee.{round, lt, le, of_int, fits, is_nan, of_bits}
use Rattle.std.specs.Float.Ieee.Fits.{round-fits}
use Rattle.std.specs.Float.Ieee.Bits.{is_true, is_false}
use Rattle.std.specs.Float.Ieee.Order.{round_mono}
use Rattle.std.specs.Float.Ieee.Positive.{num, den, den_pos}
use Rattle.floats.specs.Binary64.{◌⊕◌, ◌⊖◌, ◌⊗◌, ◌⊘◌, 0f, is_finite, max, min, abs}
use Rattle.floats.specs.Order.{plus_zero, passed}
use Rattle.floats.specs.Exact.{units_exact}
use Rattle.floats.specs.Sign.{Sign, round_sign, clear_not_below}
use Rattle.floats.specs.Plain.{plain, plain_finite, plain_not_nan, plain_sign, value_plain, value_cross, le→cross}
use Rattle.floats.specs.Plain.{cross→le, add_is, sub_is, mul_is, div_is, add_ge_left, add_ge_right}
use Rattle.floats.specs.Functions.{is_finite_of, max_keeps, min_keeps, abs_plain}

-- a number with its sign clear, held by the format, at most n * 2 ^ k
pub record Upto (k n : ℕ) (x : Float) : Type 0 where
  pub clear : T (plain x)
  pub held : T (fits binary64 x)
  pub most : num x ≤ n * 2 ^ k * den x

-- ---- what a bounded value is

module _ {k n : ℕ} {x : Float} (u : Upto k n x) where
  pub upto_not_nan : is_nan x ≡ false
  upto_not_nan = plain_not_nan x u.clear

  pub upto_finite : is_finite x ≡ true
  upto_finite = is_finite_of x (plain_finite x u.clear)

  pub upto_not_below : lt x 0f ≡ false
  unfolding of_bits
  upto_not_below = is_false (lt x plus_zero) (clear_not_below x (plain_sign x u.clear))

-- ---- other bounds of the same value

module _ {k n : ℕ} {x : Float} where
  -- b units, in units of 2 ^ j
  pub upto_as : (j b : ℕ) → Upto k n x → n * 2 ^ k ≤ b * 2 ^ j → Upto j b x
  upto_as j b u h = record { clear = u.clear; held = u.held; most = le_trans u.most (mul-le-mul_right (den x) h) }

  pub upto_more : (b : ℕ) → Upto k n x → n ≤ b → Upto k b x
  upto_more b u h = upto_as k b u (mul-le-mul_right (2 ^ k) h)

  -- What is at most x has x's bound.
  pub upto_le : (y : Float) → T (plain y) → T (fits binary64 y) → le y x ≡ true → Upto k n x → Upto k n y
  upto_le y p h g u =
      record {
        clear = p;
        held = h;
        most = le_of_mul-le-mul_right
            (le_trans (le→cross y x p u.clear (passed (le y x) g))
            (le_trans (mul-le-mul_right (den y) u.most) (le_of_eq (mul_right_comm (n * 2 ^ k) (den x) (den y)))))
            (den_pos x);
      }

-- ---- the rounding of a fraction of at most n units

room : (k : ℕ) → k ≤ 970 → 53 + k ≤ 1023
room k h = omega arith

plain_of_le : (x y : Float) → Sign false x → T (plain y) → T (le x y) → T (plain x)
unfolding le
plain_of_le nan y p q h = absurd p
plain_of_le (inf true) y p q h = absurd (true≢false p)
plain_of_le (inf false) nan p q h = absurd q
plain_of_le (inf false) (inf t) p q h = absurd q
plain_of_le (inf false) (fin t n d) p q h = absurd h
plain_of_le (fin true m e) y p q h = absurd (true≢false p)
plain_of_le (fin false m e) y p q h = tt

-- the bound itself, as a float
bound : (k n : ℕ) → k ≤ 970 → n ≤ 2 ^ 53 → Upto k n (round binary64 false (n * 2 ^ k) 1)
bound k n h l =
    let y = round binary64 false (n * 2 ^ k) 1 in
    let v = units_exact binary64 k n (room k h) l in
    record {
      clear = value_plain y (n * 2 ^ k) 1 v;
      held = round-fits binary64 false (n * 2 ^ k) 1;
      most = le_of_eq (sym (mul-one (num y)) ∙ value_cross y false (n * 2 ^ k) 1 v);
    }

-- It is at most the bound, which rounds to itself.
pub upto_round : (k n a c : ℕ) → k ≤ 970 → n ≤ 2 ^ 53 → 0 < c → a ≤ n * 2 ^ k * c
    → Upto k n (round binary64 false a c)
upto_round k n a c h l C g =
    let x = round binary64 false a c in
    let y = round binary64 false (n * 2 ^ k) 1 in
    let b = bound k n h l in
    let o : T (le x y) = round_mono binary64 a c (n * 2 ^ k) 1 C (zero-lt-suc 0) (le_trans (le_of_eq (mul-one a)) g) in
    upto_le x (plain_of_le x y (round_sign binary64 false a c) b.clear o) (round-fits binary64 false a c)
    (is_true (le x y) o) b

-- The bound as a test: x is at most the float n * 2 ^ k.
pub upto_test : {k n : ℕ} {x : Float} → Upto k n x → k ≤ 970 → n ≤ 2 ^ 53
    → le x (of_int binary64 (pos (n * 2 ^ k))) ≡ true
unfolding of_int
upto_test {k} {n} {x} u h l =
    let y = round binary64 false (n * 2 ^ k) 1 in
    let v = units_exact binary64 k n (room k h) l in
    is_true (le x y)
    (cross→le x y u.clear (value_plain y (n * 2 ^ k) 1 v)
    (le_trans (mul-le-mul_right (den y) u.most)
    (le_of_eq (mul_right_comm (n * 2 ^ k) (den x) (den y)
    ∙ ap (λ (z : ℕ). z * den x) (sym (sym (mul-one (num y)) ∙ value_cross y false (n * 2 ^ k) 1 v))))))

-- ---- zero, a choice, `max`, `min`, `abs`

pub upto_zero : (k n : ℕ) → Upto k n 0f
unfolding of_bits
upto_zero k n = record { clear = tt; held = unfold fits in tt; most = zero-le }

module _ {k n : ℕ} {x y : Float} (u : Upto k n x) (v : Upto k n y) where
  pub upto_cond : (b : Bool) → Upto k n (cond b x y)
  upto_cond true = u
  upto_cond false = v

  pub upto_max : Upto k n (max x y)
  upto_max = max_keeps x y (λ (z : Float). Upto k n z) u v

  pub upto_min : Upto k n (min x y)
  upto_min = min_keeps x y (λ (z : Float). Upto k n z) u v

pub upto_abs : {k n : ℕ} {x : Float} → Upto k n x → Upto k n (abs x)
upto_abs {k} {n} {x} u = subst (λ (z : Float). Upto k n z) (sym (abs_plain x u.clear)) u

-- ---- sums

pub sum_bound : (A B p q a b K : ℕ) → A ≤ a * K * p → B ≤ b * K * q → A * q + B * p ≤ (a + b) * K * (p * q)
sum_bound A B p q a b K h g =
    let x : A * q ≤ a * K * (p * q) = le_trans (mul-le-mul_right q h) (le_of_eq (mul_assoc (a * K) p q)) in
    let y : B * p ≤ b * K * (p * q) =
    le_trans (mul-le-mul_right p g) (le_of_eq (mul_assoc (b * K) q p ∙ ap (λ (z : ℕ). b * K * z) (mul_comm q p))) in
    simp add-mul (add-le-add x y)

-- The units add up.
pub upto_add : {k a b : ℕ} {x y : Float} → Upto k a x → Upto k b y → k ≤ 970 → a + b ≤ 2 ^ 53 → Upto k (a + b) (x ⊕ y)
upto_add {k} {a} {b} {x} {y} u v h l =
    subst (λ (z : Float). Upto k (a + b) z) (sym (add_is x y u.clear v.clear))
    (upto_round k (a + b) (num x * den y + num y * den x) (den x * den y) h l (mul-pos (den_pos x) (den_pos y))
    (sum_bound (num x) (num y) (den x) (den y) a b (2 ^ k) u.most v.most))

-- A sum is at least each of its terms.
module _ {k a j b : ℕ} {x y : Float} (u : Upto k a x) (v : Upto j b y) where
  pub upto_add_left : le x (x ⊕ y) ≡ true
  upto_add_left = is_true (le x (x ⊕ y)) (add_ge_left x y u.clear v.clear u.held)

  pub upto_add_right : le y (x ⊕ y) ≡ true
  upto_add_right = is_true (le y (x ⊕ y)) (add_ge_right x y u.clear v.clear v.held)

-- ---- a difference x - y with y ≤ x

difference_bound : (A B p q a K : ℕ) → A ≤ a * K * p → A * q - B ≤ a * K * (p * q)
difference_bound A B p q a K h =
    le_trans (sub-le (A * q) B) (le_trans (mul-le-mul_right q h) (le_of_eq (mul_assoc (a * K) p q)))

-- It has x's bound.
pub upto_sub : {k a j b : ℕ} {x y : Float} → Upto k a x → Upto j b y → le y x ≡ true → k ≤ 970 → a ≤ 2 ^ 53
    → Upto k a (x ⊖ y)
upto_sub {k} {a} {j} {b} {x} {y} u v g h l =
    subst (λ (z : Float). Upto k a z) (sym (sub_is x y u.clear v.clear (passed (le y x) g)))
    (upto_round k a (num x * den y - num y * den x) (den x * den y) h l (mul-pos (den_pos x) (den_pos y))
    (difference_bound (num x) (num y * den x) (den x) (den y) a (2 ^ k) u.most))

-- ---- products

pub product_bound : (A B p q a b J K : ℕ) → A ≤ a * J * p → B ≤ b * K * q → A * B ≤ a * b * (J * K) * (p * q)
product_bound A B p q a b J K h g = le_trans (mul-le-mul h g) (le_of_eq (simp (mul_assoc, mul_comm, mul_left_comm)))

-- The numbers of units multiply, and the units too.
pub upto_mul : {j k a b : ℕ} {x y : Float} → Upto j a x → Upto k b y → j + k ≤ 970 → a * b ≤ 2 ^ 53
    → Upto (j + k) (a * b) (x ⊗ y)
upto_mul {j} {k} {a} {b} {x} {y} u v h l =
    subst (λ (z : Float). Upto (j + k) (a * b) z) (sym (mul_is x y u.clear v.clear))
    (upto_round (j + k) (a * b) (num x * num y) (den x * den y) h l (mul-pos (den_pos x) (den_pos y))
    (subst (λ (z : ℕ). num x * num y ≤ a * b * z * (den x * den y)) (sym (pow-add 2 j k))
    (product_bound (num x) (num y) (den x) (den y) a b (2 ^ j) (2 ^ k) u.most v.most)))

-- ---- quotients

-- a number with its sign clear, p / q at least
pub record Atleast (p q : ℕ) (y : Float) : Type 0 where
  pub clear : T (plain y)
  pub least : p * den y ≤ num y * q

num_above : (p q d n : ℕ) → 0 < p → 0 < d → p * d ≤ n * q → 0 < n
num_above p q d zero P D h = absurd (clash (p * d) (mul-pos P D) (le_trans h (le_of_eq (zero-mul q))))
  where
    clash : (a : ℕ) → 0 < a → a ≤ 0 → ⊥
    clash a g e = omega arith
num_above p q d (suc n) P D h = zero-lt-suc n

quotient_bound : (A dx N dy p q aJ nK : ℕ) → 0 < p → A ≤ aJ * dx → p * dy ≤ N * q → aJ * q ≤ nK * p
    → A * dy ≤ nK * (N * dx)
quotient_bound A dx N dy p q aJ nK P h g l =
    let x : A * dy * p ≤ aJ * dx * dy * p = mul-le-mul_right p (mul-le-mul_right dy h) in
    let y : aJ * dx * dy * p ≤ aJ * dx * (N * q) =
    le_trans (le_of_eq (simp (mul_assoc, mul_comm, mul_left_comm))) (mul-le-mul_left (aJ * dx) g) in
    let z : aJ * dx * (N * q) ≤ nK * (N * dx) * p =
    le_trans (le_of_eq (simp (mul_assoc, mul_comm, mul_left_comm)))
    (le_trans (mul-le-mul_right (dx * N) l) (le_of_eq (simp (mul_assoc, mul_comm, mul_left_comm)))) in
    le_of_mul-le-mul_right (le_trans x (le_trans y z)) P

-- n units of 2 ^ k are enough where a units of 2 ^ j over p / q are no more.
pub upto_div : {j a p q : ℕ} {x y : Float} (k n : ℕ) → Upto j a x → Atleast p q y → 0 < p
    → a * 2 ^ j * q ≤ n * 2 ^ k * p → k ≤ 970 → n ≤ 2 ^ 53 → Upto k n (x ⊘ y)
upto_div {j} {a} {p} {q} {x} {y} k n u v P g h l =
    let N : 0 < num y = num_above p q (den y) (num y) P (den_pos y) v.least in
    subst (λ (z : Float). Upto k n z) (sym (div_is x y u.clear v.clear N))
    (upto_round k n (num x * den y) (num y * den x) h l (mul-pos N (den_pos x))
    (quotient_bound (num x) (den x) (num y) (den y) p q (a * 2 ^ j) (n * 2 ^ k) P u.most v.least g))

-- What is at least y is p / q at least, too.
pub atleast_le : {p q : ℕ} {y : Float} (z : Float) → Atleast p q y → T (plain z) → le y z ≡ true → Atleast p q z
atleast_le {p} {q} {y} z u c h =
    record {
      clear = c;
      least = le_of_mul-le-mul_right
          (le_trans (le_of_eq (mul_right_comm p (den z) (den y)))
          (le_trans (mul-le-mul_right (den z) u.least)
          (le_trans (le_of_eq (mul_right_comm (num y) q (den z)))
          (le_trans (mul-le-mul_right q (le→cross y z u.clear c (passed (le y z) h)))
          (le_of_eq (mul_right_comm (num z) (den y) q))))))
          (den_pos y);
    }

-- For sums of lists, added from the left as a loop adds them: bounds, so that no sum overflows or is a NaN; a start at
-- -0, as Rust's `sum` has it; one more term at the end; and a sum that grows with its start and with each term.
-- Assumes nothing.
use Rattle.std.specs.Prelude.{◌≡◌, refl, List, [], ◌∷◌, ◌++◌, ℕ, zero, suc, ◌+◌, ◌*◌, ◌^◌, ◌≤◌, ◌<◌, true, T, length, take, get_or, Float}
use Rattle.std.proofs.Common.{sym, ap, ◌∙◌, subst, add-zero, suc-mul, zero-mul, zero-lt-suc, not-suc-le-zero, le_of_suc-le-suc, le_of_eq, le_trans, le-add_right, zero-add, mul-le-mul_right, add-one, arith, take-suc}
use Rattle.std.specs.Float.{binary64}
use Rattle.std.specs.Float.Ieee.{le, fits, is_nan}
use Rattle.std.specs.Float.Ieee.Fits.{add-fits}
use Rattle.std.specs.Float.Ieee.Bits.{is_true}
use Rattle.floats.specs.Binary64.{◌⊕◌, 0f, -0f}
use Rattle.floats.specs.Order.{le_self, negated}
use Rattle.floats.specs.Plain.{plain, add_zero_left, add_minus_zero_left}
use Rattle.floats.specs.Monotone.{add_mono_true}
use Rattle.floats.specs.Upto.{Upto, upto_zero, upto_more, upto_add, upto_add_left, upto_not_nan, upto_finite}

-- a + x1 + x2 + .., from the left: Rust's `xs.iter().sum::<f64>()` is the sum from -0
unfoldable pub sum_from : Float → List Float → Float
sum_from a [] = a
sum_from a (x ∷ xs) = sum_from (a ⊕ x) xs

-- every term is of up to n units of 2 ^ k
pub data AllUpto (k n : ℕ) : List Float → Type 0 where
  none : AllUpto k n []
  more : {x : Float} {xs : List Float} → Upto k n x → AllUpto k n xs → AllUpto k n (x ∷ xs)

-- term by term, the first list is at most the second
pub data AllLe : List Float → List Float → Type 0 where
  none : AllLe [] []
  more : {x y : Float} {xs ys : List Float} → le x y ≡ true → AllLe xs ys → AllLe (x ∷ xs) (y ∷ ys)

-- ---- lists of bounded terms

module _ {k n : ℕ} where
  pub all_take : {xs : List Float} (i : ℕ) → AllUpto k n xs → AllUpto k n (take i xs)
  all_take zero none = none
  all_take (suc i) none = none
  all_take zero (more u us) = none
  all_take (suc i) (more u us) = more u (all_take i us)

  pub all_append : {xs ys : List Float} → AllUpto k n xs → AllUpto k n ys → AllUpto k n (xs ++ ys)
  all_append none v = v
  all_append (more u us) v = more u (all_append us v)

  pub all_at : {xs : List Float} (i : ℕ) (d : Float) → AllUpto k n xs → i < length xs → Upto k n (get_or xs i d)
  all_at i d none h = absurd (not-suc-le-zero h)
  all_at zero d (more u us) h = u
  all_at (suc i) d (more u us) h = all_at i d us (le_of_suc-le-suc h)

  pub all_of : (xs : List Float) (d : Float) → ((i : ℕ) → i < length xs → Upto k n (get_or xs i d)) → AllUpto k n xs
  all_of [] d f = none
  all_of (x ∷ xs) d f = more (f 0 (zero-lt-suc (length xs))) (all_of xs d (λ i h. f (suc i) (later i (length xs) h)))
    where
      later : (i m : ℕ) → i < m → suc i < suc m
      later i m h = omega arith

-- ---- bounds

one_more : (b c t : ℕ) → b + suc c * t ≡ b + t + c * t
one_more b c t = omega (arith, suc-mul c t)

less_room : (b t r P : ℕ) → b + t + r ≤ P → b + t ≤ P
less_room b t r P h = omega arith

-- the start's units, and n for each term
pub upto_sum : {k n b : ℕ} {a : Float} {xs : List Float} → Upto k b a → AllUpto k n xs → k ≤ 970
    → b + length xs * n ≤ 2 ^ 53 → Upto k (b + length xs * n) (sum_from a xs)
unfolding sum_from
upto_sum {k} {n} {b} u none h l =
    upto_more (b + 0 * n) u (le_of_eq (sym (ap (λ (z : ℕ). b + z) (zero-mul n) ∙ add-zero b)))
upto_sum {k} {n} {b} {a} u (more {x} {xs} v vs) h l =
    let e : b + suc (length xs) * n ≡ b + n + length xs * n = one_more b (length xs) n in
    let l' : b + n + length xs * n ≤ 2 ^ 53 = subst (λ (z : ℕ). z ≤ 2 ^ 53) e l in
    subst (λ (z : ℕ). Upto k z (sum_from (a ⊕ x) xs)) (sym e)
    (upto_sum {b = b + n} (upto_add u v h (less_room b n (length xs * n) (2 ^ 53) l')) vs h l')

scaled : (m n c : ℕ) → c ≤ m → 0 + c * n ≤ m * n
scaled m n c h = le_trans (le_of_eq (zero-add (c * n))) (mul-le-mul_right n h)

-- from zero, for up to m terms
pub upto_sum_zero : {k n : ℕ} {xs : List Float} (m : ℕ) → AllUpto k n xs → length xs ≤ m → k ≤ 970 → m * n ≤ 2 ^ 53
    → Upto k (m * n) (sum_from 0f xs)
upto_sum_zero {k} {n} {xs} m us c h l =
    let s = scaled m n (length xs) c in
    upto_more (m * n) (upto_sum (upto_zero k 0) us h (le_trans s l)) s

-- A sum is an f64 wherever its start is one.
pub sum_fits : (a : Float) (xs : List Float) → T (fits binary64 a) → T (fits binary64 (sum_from a xs))
unfolding sum_from
sum_fits a [] h = h
sum_fits a (x ∷ xs) h = sum_fits (a ⊕ x) xs (add-fits binary64 a x)

-- ---- where it starts: where there is a term, a sum from -0 or +0 is the sum from its first term

pub sum_from_minus_zero : (x : Float) (xs : List Float) → T (fits binary64 x) → sum_from -0f (x ∷ xs) ≡ sum_from x xs
unfolding sum_from
sum_from_minus_zero x xs h = ap (λ (z : Float). sum_from z xs) (add_minus_zero_left x h)

pub sum_from_zero : (x : Float) (xs : List Float) → T (plain x) → T (fits binary64 x)
    → sum_from 0f (x ∷ xs) ≡ sum_from x xs
unfolding sum_from
sum_from_zero x xs p h = ap (λ (z : Float). sum_from z xs) (add_zero_left x p h)

pub same_start : (x : Float) (xs : List Float) → T (plain x) → T (fits binary64 x)
    → sum_from -0f (x ∷ xs) ≡ sum_from 0f (x ∷ xs)
same_start x xs p h = sum_from_minus_zero x xs h ∙ sym (sum_from_zero x xs p h)

-- Rust's `sum` of one term or more has the bound of the sum from zero.
pub upto_sum_minus_zero : {k n : ℕ} {x : Float} {xs : List Float} (m : ℕ) → AllUpto k n (x ∷ xs) → length (x ∷ xs) ≤ m
    → k ≤ 970 → m * n ≤ 2 ^ 53 → Upto k (m * n) (sum_from -0f (x ∷ xs))
upto_sum_minus_zero {k} {n} {x} {xs} m (more u us) c h l =
    subst (λ (z : Float). Upto k (m * n) z) (sym (same_start x xs u.clear u.held))
    (upto_sum_zero m (more u us) c h l)

-- ---- as a loop builds it

pub sum_start : (a : Float) (xs : List Float) → sum_from a (take 0 xs) ≡ a
unfolding sum_from
sum_start a xs = refl

-- one more term at the end
pub sum_snoc : (a : Float) (xs : List Float) (x : Float) → sum_from a (xs ++ (x ∷ [])) ≡ sum_from a xs ⊕ x
unfolding sum_from
sum_snoc a [] x = refl
sum_snoc a (y ∷ ys) x = sum_snoc (a ⊕ y) ys x

-- .. by the index of a loop
pub sum_take : (a : Float) (xs : List Float) (i : ℕ) (d : Float) → i < length xs
    → sum_from a (take (i + 1) xs) ≡ sum_from a (take i xs) ⊕ get_or xs i d
sum_take a xs i d h =
    ap (λ (z : ℕ). sum_from a (take z xs)) (add-one i) ∙ ap (sum_from a) (take-suc xs i d h)
    ∙ sum_snoc a (take i xs) (get_or xs i d)

-- ---- the order: from a start that is no larger, with terms that are no larger, a sum is no larger

pub sum_mono : {k n b : ℕ} {a a' : Float} {xs ys : List Float} → Upto k b a → Upto k b a' → AllUpto k n xs
    → AllUpto k n ys → le a a' ≡ true → AllLe xs ys → k ≤ 970 → b + length xs * n ≤ 2 ^ 53
    → le (sum_from a xs) (sum_from a' ys) ≡ true
unfolding sum_from
sum_mono u u' none none o none h l = o
sum_mono u u' none (more w ws) o p h l = elim p [ ]
sum_mono u u' (more v vs) none o p h l = elim p [ ]
sum_mono {k} {n} {b} {a} {a'} u u' (more {x} {xs} v vs) (more {x = y} w ws) o (more p ps) h l =
    let l' : b + n + length xs * n ≤ 2 ^ 53 = subst (λ (z : ℕ). z ≤ 2 ^ 53) (one_more b (length xs) n) l in
    let r = less_room b n (length xs * n) (2 ^ 53) l' in
    let o' : le (a ⊕ x) (a' ⊕ y) ≡ true =
    add_mono_true a a' x y (upto_finite u) (upto_finite u') (upto_finite v) (upto_finite w) o p in
    sum_mono {b = b + n} (upto_add u v h r) (upto_add u' w h r) vs ws o' ps h l'

pub all_le_self : {k n : ℕ} {xs : List Float} → AllUpto k n xs → AllLe xs xs
all_le_self none = none
all_le_self (more {x} u us) = more (is_true (le x x) (le_self x (negated (is_nan x) (upto_not_nan u)))) (all_le_self us)

one_more_after : (b c t : ℕ) → b + t + suc c * t ≡ b + t + t + c * t
one_more_after b c t = omega (arith, suc-mul c t)

-- With one term less it is no larger.
pub sum_without : {k n b : ℕ} {a z : Float} {xs ys : List Float} → Upto k b a → AllUpto k n xs → Upto k n z
    → AllUpto k n ys → k ≤ 970 → b + n + length (xs ++ ys) * n ≤ 2 ^ 53
    → le (sum_from a (xs ++ ys)) (sum_from a (xs ++ (z ∷ ys))) ≡ true
unfolding sum_from
sum_without {k} {n} {b} {a} {z} {ys = ys} u none w vs h l =
    let r = less_room b n (length ys * n) (2 ^ 53) l in
    sum_mono (upto_more (b + n) u (le-add_right b n)) (upto_add u w h r) vs vs (upto_add_left u w) (all_le_self vs) h l
sum_without {k} {n} {b} {a} {z} {ys = ys} u (more {xs} v us) w vs h l =
    let l' : b + n + n + length (xs ++ ys) * n ≤ 2 ^ 53 =
    subst (λ (m : ℕ). m ≤ 2 ^ 53) (one_more_after b (length (xs ++ ys)) n) l in
    let r = less_room b n n (2 ^ 53) (less_room (b + n) n (length (xs ++ ys) * n) (2 ^ 53) l') in
    sum_without {b = b + n} (upto_add u v h r) us w vs h l'

-- For proofs about signs: `neg` turns the order round, `round` goes with it in either format and keeps the sign that it
-- is given, and a value whose sign is set is at most one whose sign is clear. Assumes nothing.
use Rattle.std.specs.Prelude.{◌≡◌, Bool, true, false, not, cond, ℤ, T, ltb, Float}
use Rattle.std.proofs.Math.Path.{refl}
use Rattle.std.proofs.Common.{sym, ap, ◌∙◌, subst, arith, true≢false, ltb→lt}
use Prim.Native.Nat.{ℕ, zero, suc, ◌+◌, ◌-◌, ◌*◌, ◌/◌, ◌%◌, ◌^◌, ◌≤◌, ◌<◌, compare}
use Rattle.std.proofs.lemmas.Bool.{false≢true}
use Rattle.std.proofs.Math.Dec.{not_T}
use Rattle.std.specs.Float.{nan, inf, fin, Format}
use Rattle.std.specs.Float.Ieee.{prec, emax, low, up, down, size, nearest, odd, units, round, neg, lt, le, fits, is_nan}
use Rattle.std.specs.Float.Ieee.Fits.{round_is}
use Rattle.std.specs.Float.Ieee.Order.{round_mono}
use Rattle.floats.specs.Order.{plus_zero, over, under, le→AtMost, AtMost→le, lt_of_nle, lt_not_le, lt_left}
use Rattle.floats.specs.Order.{lt_right}

-- ---- `neg` turns the order round

pub neg_neg : (x : Float) → neg (neg x) ≡ x
unfolding neg
neg_neg nan = refl
neg_neg (inf true) = refl
neg_neg (inf false) = refl
neg_neg (fin true m e) = refl
neg_neg (fin false m e) = refl

over_not : (s : Bool) (a : ℕ) → over (not s) a ≡ under s a
over_not true a = refl
over_not false a = refl

under_not : (s : Bool) (a : ℕ) → under (not s) a ≡ over s a
under_not true a = refl
under_not false a = refl

swap : (a b c d : ℕ) → a + b ≤ c + d → b + a ≤ d + c
swap a b c d h = omega arith

pub le_neg : (x y : Float) → T (le x y) → T (le (neg y) (neg x))
unfolding le neg
le_neg nan y h = absurd h
le_neg (inf s) nan h = absurd h
le_neg (inf true) (inf true) h = tt
le_neg (inf true) (inf false) h = tt
le_neg (inf false) (inf true) h = absurd h
le_neg (inf false) (inf false) h = tt
le_neg (inf true) (fin t n d) h = tt
le_neg (inf false) (fin t n d) h = absurd h
le_neg (fin s m e) nan h = absurd h
le_neg (fin s m e) (inf true) h = absurd h
le_neg (fin s m e) (inf false) h = tt
le_neg (fin s m e) (fin t n d) h =
    let a = m * up e in
    let b = n * up d in
    AtMost→le (not t) n d (not s) m e
    (rw (over_not t b, over_not s a, under_not t b, under_not s a)
    (swap (over s a * down d) (under t b * down e) (over t b * down e) (under s a * down d) (le→AtMost s m e t n d h)))

neg_not_nan : (x : Float) → T (not (is_nan x)) → T (not (is_nan (neg x)))
unfolding neg is_nan
neg_not_nan nan h = absurd h
neg_not_nan (inf s) h = tt
neg_not_nan (fin s m e) h = tt

pub lt_neg : (x y : Float) → T (lt x y) → T (lt (neg y) (neg x))
lt_neg x y h =
    lt_of_nle (neg x) (neg y) (neg_not_nan x (lt_left x y h)) (neg_not_nan y (lt_right x y h))
    (λ (g : T (le (neg x) (neg y))). lt_not_le x y h (rw (neg_neg y, neg_neg x) at (le_neg (neg x) (neg y) g)))

-- ---- `round` goes with it

odd_neg : (d q k l : ℕ) → odd d true q k l ≡ neg (odd d false q k l)
unfolding odd neg
odd_neg d zero k l = refl
odd_neg d (suc q) k l = refl

units_neg : (f : Format) (q k : ℕ) → units f true q k ≡ neg (units f false q k)
unfolding units
units_neg f q k = go (ltb (q * 2 ^ k) (2 ^ (low f + suc (emax f))))
  where
    go : (b : Bool)
        → cond b (odd (suc (prec f)) true q k (low f)) (inf true)
        ≡ neg (cond b (odd (suc (prec f)) false q k (low f)) (inf false))
    go true = odd_neg (suc (prec f)) q k (low f)
    go false = unfold neg in refl

pub round_neg : (f : Format) (a c : ℕ) → round f true a c ≡ neg (round f false a c)
round_neg f a c =
    let n = a * 2 ^ low f in
    let k = size (n / c) - prec f in
    let u = c * 2 ^ k in
    round_is f true a c ∙ units_neg f (nearest (n / u) (compare (n % u * 2) u)) k ∙ sym (ap neg (round_is f false a c))

-- a / b ≤ c / d, so -c / d ≤ -a / b, rounded too
pub round_mono_neg : (f : Format) (a b c d : ℕ) → 0 < b → 0 < d → a * d ≤ c * b
    → T (le (round f true c d) (round f true a b))
round_mono_neg f a b c d B D h =
    rw (round_neg f c d, round_neg f a b) (le_neg (round f false a b) (round f false c d) (round_mono f a b c d B D h))

-- ---- the sign

-- x is no NaN and has the sign s.
abbrev pub Sign : Bool → Float → Type 0
Sign s nan = ⊥
Sign s (inf t) = t ≡ s
Sign s (fin t m e) = t ≡ s

odd_keeps : (d : ℕ) (s : Bool) (q k l : ℕ) → Sign s (odd d s q k l)
unfolding odd
odd_keeps d s zero k l = refl
odd_keeps d s (suc q) k l = refl

units_keeps : (f : Format) (s : Bool) (q k : ℕ) → Sign s (units f s q k)
unfolding units
units_keeps f s q k = go (ltb (q * 2 ^ k) (2 ^ (low f + suc (emax f))))
  where
    go : (b : Bool) → Sign s (cond b (odd (suc (prec f)) s q k (low f)) (inf s))
    go true = odd_keeps (suc (prec f)) s q k (low f)
    go false = refl

pub round_sign : (f : Format) (s : Bool) (a c : ℕ) → Sign s (round f s a c)
round_sign f s a c =
    let n = a * 2 ^ low f in
    let k = size (n / c) - prec f in
    let u = c * 2 ^ k in
    subst (λ (z : Float). Sign s z) (sym (round_is f s a c))
    (units_keeps f s (nearest (n / u) (compare (n % u * 2) u)) k)

pub sign_not_nan : (s : Bool) (x : Float) → Sign s x → is_nan x ≡ false
unfolding is_nan
sign_not_nan s nan p = absurd p
sign_not_nan s (inf t) p = refl
sign_not_nan s (fin t m e) p = refl

pub round_not_nan : (f : Format) (s : Bool) (a c : ℕ) → is_nan (round f s a c) ≡ false
round_not_nan f s a c = sign_not_nan s (round f s a c) (round_sign f s a c)

-- A format holds a number whichever its sign.
pub fits_sign : (f : Format) (s t : Bool) (m : ℕ) (e : ℤ) → fits f (fin s m e) ≡ fits f (fin t m e)
unfolding fits
fits_sign f s t zero e = refl
fits_sign f s t (suc m) e = refl

low_le : (p q r : ℕ) → 0 * p + 0 * q ≤ r
low_le p q r = omega arith

-- A value with the sign set is at most one with the sign clear.
pub signs_le : (x y : Float) → Sign true x → Sign false y → T (le x y)
unfolding le
signs_le nan y p q = absurd p
signs_le (inf s) nan p q = absurd q
signs_le (inf true) (inf true) p q = tt
signs_le (inf true) (inf false) p q = tt
signs_le (inf false) (inf t) p q = absurd (false≢true p)
signs_le (inf true) (fin t n d) p q = tt
signs_le (inf false) (fin t n d) p q = absurd (false≢true p)
signs_le (fin s m e) nan p q = absurd q
signs_le (fin s m e) (inf true) p q = absurd (true≢false q)
signs_le (fin s m e) (inf false) p q = tt
signs_le (fin true m e) (fin true n d) p q = absurd (true≢false q)
signs_le (fin true m e) (fin false n d) p q =
    AtMost→le true m e false n d (low_le (down d) (down e) (n * up d * down e + m * up e * down d))
signs_le (fin false m e) (fin t n d) p q = absurd (false≢true p)

-- ---- what is not below zero

under_zero : (a c : ℕ) → a < 0 * c → ⊥
under_zero a c h = omega arith

pub clear_not_below : (x : Float) → Sign false x → T (not (lt x plus_zero))
unfolding lt
clear_not_below nan p = absurd p
clear_not_below (inf true) p = absurd (true≢false p)
clear_not_below (inf false) p = tt
clear_not_below (fin true m e) p = absurd (true≢false p)
clear_not_below (fin false m e) p =
    not_T (ltb (m * up e * 1) (0 * down e))
    (λ h. under_zero (m * up e * 1) (down e) (ltb→lt (m * up e * 1) (0 * down e) h))

-- Digits and words, as the readers in code come upon them. Assumes nothing.
use Prim.Native.Nat.{ℕ, zero, suc, ◌+◌, ◌-◌, ◌*◌, ◌^◌, ◌≤◌, ◌<◌}
use mathlib.Core.Path.{◌≡◌, refl, ap, sym, ◌∙◌}
use mathlib.Core.Bool.{true, false}
use mathlib.Core.List.{List, ◌∷◌}
use native.Mathlib.Omega.{arith}
use native.Mathlib.Nat.{pow-suc, pow-le-pow_right, lt_of_lt_of_le}
use native.Mathlib.Numerals.{add-one}
use lib.ListN.{length, drop, get_or, drop_of_length-le}
use lib.Seq.{drop-cons}
use borrow.Author.Tests.{le-leb, lt-leb}
use Rattle.sheet_text.specs.declared.Text.{Text}
use Rattle.sheet_text.specs.Told.{Reads}
use Rattle.sheet_text.proofs.ReadLaws.{Left, stop, done, ends, goes_on, behind}
use Rattle.sheet_text.specs.Text.{refused, got, Parser, byte_at, is_digit, byte, word, digits}

-- ---- digits

pub digit_yes : (b : ℕ) → 48 ≤ b → b ≤ 57 → is_digit b ≡ true
digit_yes b l h = simp (le-leb 48 b l, le-leb b 57 h)

pub digit_low : (b : ℕ) → b < 48 → is_digit b ≡ false
digit_low b h = simp (lt-leb 48 b h)

pub digit_high : (b : ℕ) → 57 < b → is_digit b ≡ false
digit_high b h =
    let l : 48 ≤ b = omega arith in
    simp (le-leb 48 b l, lt-leb b 57 h)

pub ruleset digit_tests = (digit_yes, digit_low, digit_high)

-- what the byte b at a position makes of the digits from there
module _ (s : List ℕ) (at v k : ℕ) {b : ℕ} (e : b ≡ byte_at s at) where
  pub digits_more : (j : ℕ) → k ≡ suc j → 48 ≤ b → b ≤ 57 → digits k v s at ≡ digits j (v * 10 + (b - 48)) s (at + 1)
  unfolding digits
  digits_more j m l h = rw (m, e) (more (ap is_digit (sym e) ∙ digit_yes b l h))
    where
      more : is_digit (byte_at s at) ≡ true → digits (suc j) v s at ≡ digits j (v * 10 + (byte_at s at - 48)) s (at + 1)
      more d = rw d

  pub digits_stop : is_digit b ≡ false → digits k v s at ≡ got v at
  unfolding digits
  digits_stop h = stop k (ap is_digit (sym e) ∙ h)
    where
      stop : (k : ℕ) → is_digit (byte_at s at) ≡ false → digits k v s at ≡ got v at
      stop zero d = refl
      stop (suc j) d = rw d

pub digits_done : (s : List ℕ) (at v k : ℕ) → k ≤ 0 → digits k v s at ≡ got v at
unfolding digits
digits_done s at v zero h = refl
digits_done s at v (suc k) h = absurd (omega arith)

-- one digit more
pub tens : (k v d : ℕ) → v < 10 ^ k → d < 10 → v * 10 + d < 10 ^ (k + 1)
tens k v d lv ld = rw (add-one k, pow-suc) (omega arith)

pub below : (k m v : ℕ) → k ≤ m → v < 10 ^ k → v < 10 ^ m
below k m v h l =
    let p : 0 < 10 = omega arith in
    lt_of_lt_of_le l (pow-le-pow_right p h)

-- ---- words

-- a word, from its byte j on
module _ (w : List ℕ) (j : ℕ) {whole : Parser (Unit {0})} {old t : Text} (l : Left whole old (word (drop j w)) t) where
  pub word_ends : length w ≤ j → Reads whole old (got tt) t
  unfolding word
  word_ends h = ends l (rw (drop_of_length-le w h) (done tt t))

  module _ (h : j < length w) where
    open_word : drop j w ≡ get_or w j 0 ∷ drop (j + 1) w
    open_word = rw (add-one j, drop-cons w j 0 h)

    pub word_goes_on : {u : Text} → Reads (byte (get_or w j 0)) t (got tt) u → Left whole old (word (drop (j + 1) w)) u
    unfolding word
    word_goes_on e = goes_on l _ (rw open_word (behind _ e))

    pub word_stops : {n : ℕ} {u : Text} → Reads (byte (get_or w j 0)) t (λ at. refused n) u → Reads whole old (λ at. refused n) u
    unfolding word
    word_stops e = ends l (rw open_word (stop _ e))

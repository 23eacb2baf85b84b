-- Sections: what a heading says of its count. Assumes nothing.
use Prim.Native.Nat.{ℕ, ◌≤◌}
use mathlib.Core.Path.{◌≡◌, refl, sym, subst}
use mathlib.Core.Bool.{Bool, true, false, ◌&&◌}
use mathlib.Core.List.{List}
use lib.Dec.{leb}
use borrow.Author.Tests.{leb-true}
use Rattle.sheet_cells.specs.sheet_text.Text.{Reading, refused, got, next, check, word, byte, number as text_number, space, lf}
use Rattle.sheet_cells.specs.sheet_text.declared.Text.{Text}
use Rattle.sheet_cells.specs.sheet_text.Told.{Reads}
use Rattle.sheet_cells.specs.sheet_headings.Heading.{heading}

-- ---- counts

-- what holds of every refusal, and of what is read behind each value, holds of the whole
pub next_rule : {A B : Type 0} (P : Reading B → Type 0) → ((n : ℕ) → P (refused n)) → (r : Reading A) {f : A → ℕ → Reading B} → ((a : A) (i : ℕ) → P (f a i)) → P (next r f)
next_rule P z (refused n) g = z n
next_rule P z (got a i) g = g a i

abbrev Within : ℕ → ℕ → Reading ℕ → Type 0
Within least most (refused n) = Unit {0}
Within least most (got n i) = (least ≤ n) × (n ≤ most)

module _ (least most : ℕ) where
  checked : (n k : ℕ) (s : List ℕ) (at : ℕ) → Within least most (next (check (leb least n && leb n most) k s at) (λ u i. next (byte lf s i) (λ v j. got n j)))
  checked n k s at = go (leb least n) (leb n most) refl refl
    where
      go : (a b : Bool) → leb least n ≡ a → leb n most ≡ b → Within least most (next (check (a && b) k s at) (λ u i. next (byte lf s i) (λ v j. got n j)))
      go true true e f = next_rule (Within least most) (λ m. tt) (byte lf s at) (λ u i. (leb-true least n e, leb-true n most f))
      go true false e f = tt
      go false b e f = tt

  all_within : (name : List ℕ) (k : ℕ) (s : List ℕ) (at : ℕ) → Within least most (heading name least most k s at)
  unfolding heading
  all_within name k s at =
      next_rule (Within least most) (λ m. tt) (word name s at)
      (λ a i. next_rule (Within least most) (λ m. tt) (byte space s i) (λ b j. next_rule (Within least most) (λ m. tt) (text_number s j) (λ n l. checked n k s l)))

-- a count that was read lies between least and most
pub count_within : (name : List ℕ) (least most k : ℕ) {t u : Text} {n : ℕ} → Reads (heading name least most k) t (got n) u → (least ≤ n) × (n ≤ most)
count_within name least most k {t} h = subst (Within least most) (sym h.read) (all_within least most name k t.bytes.now t.at)

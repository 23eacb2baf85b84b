-- Rows of numbers that are read one behind the other. Assumes nothing.
use Prim.Native.Nat.{ℕ, ◌*◌, ◌≤◌, suc, ◌+◌, ◌-◌, ◌<◌}
use mathlib.Core.Path.{◌≡◌, refl, ap, sym, ◌∙◌, subst}
use mathlib.Core.List.{List, ◌++◌, map, append_assoc, append-nil, map-append}
use lib.ListN.{length, take, drop}
use borrow.Rule.Slice.PartMut.{put_mid}
use lib.Ieee.{Float}
use native.Mathlib.Omega.{arith}
use native.Mathlib.Nat.{suc-mul, mul-le-mul}
use native.Mathlib.Numerals.{add-one}
use Rattle.sheet_reader.specs.floats.Whole.{nat}
use Rattle.sheet_reader.specs.plan.Plan.{flat}
use Rattle.sheet_reader.specs.sheet_text.declared.Text.{Text}
use Rattle.sheet_reader.specs.sheet_text.Text.{Reading, refused, got, Parser, repeat, line}
use Rattle.sheet_reader.specs.sheet_text.Told.{Reads, seen}
use Rattle.sheet_reader.specs.SheetTextReadLaws.{Left, got_of, refused_of}
use Rattle.sheet_reader.specs.sheet_format.Form.{row_by_row}
use Rattle.sheet_reader.proofs.FillLaws.{left_as, fill_end, fill_fault, fill_turn, part_length, part_filled}

-- what the cells hold if the first p are filled and these rows come behind
abbrev pub rows_behind : List Float → ℕ → List (List ℕ) → List Float
rows_behind cells p rows = take p cells ++ row_by_row rows

pub rows_start : (cells : List Float) (p : Parser (List (List ℕ))) (t : Text) → Left (seen row_by_row p) t (seen (rows_behind cells 0) p) t
rows_start cells p t = left_as row_by_row (rows_behind cells 0) p t (λ rows. refl)

-- one row more
pub row_more : (row n : ℕ) → (row + 1) * n ≡ row * n + n
row_more row n = rw add-one (suc-mul row n)

pub row_room : (row n : ℕ) → row < n → row * n + n ≤ n * n
row_room row n h =
    let l : row + 1 ≤ n = omega arith in
    let k : n ≤ n = omega arith in
    omega (arith, mul-le-mul l k, row_more row n)

module _ (n : ℕ) (cells : List Float) (p left : ℕ) {whole : Parser (List Float)} {old t : Text} (l : Left whole old (seen (rows_behind cells p) (repeat left (λ l. line n))) t) where
  pub rows_end : (m : ℕ) → p ≡ m → left ≤ 0 → Reads whole old (got (take m cells)) t
  unfolding flat
  rows_end m z h =
      rw (← z) (subst (λ (c : List Float). Reads whole old (got c) t) (append-nil (take p cells)) (fill_end (λ l. line n) (rows_behind cells p) left l h))

  module _ (m : ℕ) (h : left ≡ suc m) where
    -- the line of as many numbers as its part has cells
    abbrev row : Parser (List Float)
    row = seen (map nat) (line (length (take (p + n - p) (drop p cells))))

    module _ (room : p + n ≤ length cells) where
      same_row : {said : ℕ → Reading (List Float)} {u : Text} → Reads row t said u → Reads (seen (map nat) (line n)) t said u
      same_row {said} {u} g = subst (λ (k : ℕ). Reads (seen (map nat) (line k)) t said u) (part_length cells p n room) g

      pub rows_fault : {k : ℕ} {u : Text} → Reads row t (λ at. refused k) u → Reads whole old (λ at. refused k) u
      rows_fault g = fill_fault (λ l. line n) (rows_behind cells p) left l m h (refused_of (map nat) (same_row g))

      pub rows_turn : (q : ℕ) → q ≡ p + n → {ys : List Float} {u : Text} → length ys ≡ length (take (p + n - p) (drop p cells)) → Reads row t (got ys) u
          → Left whole old (seen (rows_behind (put_mid p (p + n - p) cells ys) q) (repeat m (λ l. line n))) u
      unfolding flat
      rows_turn q o {ys = ys} e g =
          let x = got_of (map nat) (same_row g) in
          let f : take (p + n) (put_mid p (p + n - p) cells ys) ≡ take p cells ++ map nat x.0 = part_filled cells p n ys room e ∙ ap (λ l. take p cells ++ l) x.2 in
          rw o
          (fill_turn (λ l. line n) (rows_behind cells p) left l m h (rows_behind (put_mid p (p + n - p) cells ys) (p + n)) x.1
          (λ rows. ap (λ l. take p cells ++ l) (map-append nat x.0 (flat rows)) ∙ sym (append_assoc (take p cells) (map nat x.0) (row_by_row rows)) ∙ ap (λ l. l ++ row_by_row rows) (sym f)))

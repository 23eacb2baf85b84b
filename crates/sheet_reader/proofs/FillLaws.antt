-- Loops that read one thing after the other into slices. The invariant: the whole reading is the reading of what is left, seen through what the
-- slices hold by now. Assumes nothing.
use Prim.Native.Nat.{ℕ, suc, ◌+◌, ◌-◌, ◌≤◌, ◌<◌}
use mathlib.Core.Path.{◌≡◌, refl, ap, ◌∙◌, subst}
use mathlib.Core.List.{List, [], ◌∷◌, ◌++◌, map, append_assoc, append-nil}
use native.Mathlib.Omega.{arith}
use native.Mathlib.Numerals.{add-one}
use lib.ListN.{length, take, drop, set, length-drop}
use lib.Seq.{take-suc-set, length-take-le}
use borrow.Rule.Slice.PartMut.{put_mid}
use Rattle.std.proofs.lemmas.List.{take_all}
use Rattle.std.proofs.lemmas.Slice.{take-put_mid}
use Rattle.sheet_cells.specs.sheet_text.declared.Text.{Text}
use Rattle.sheet_cells.specs.sheet_text.Text.{Reading, refused, got, next, Parser, ◌>>=◌, pure, map_reading, before, number, ending, repeat}
use Rattle.sheet_cells.specs.sheet_text.Told.{Reads, seen}
use Rattle.sheet_cells.specs.SheetTextReadLaws.{Left, ends, goes_on, seen_stop, done}
use Rattle.sheet_reader.specs.Cells.{front}

-- ---- what is left, seen through a function

-- a reading that is seen through one function is seen so through its equal
pub map_same : {A B : Type 0} (f g : A → B) (r : Reading A) → ((a : A) → f a ≡ g a) → map_reading f r ≡ map_reading g r
map_same f g (refused n) h = refl
map_same f g (got a i) h = ap (λ x. got x i) (h a)

pub left_as : {A B : Type 0} (f g : A → B) (p : Parser A) (t : Text) → ((a : A) → f a ≡ g a) → Left (seen f p) t (seen g p) t
left_as f g p t h = record { read = map_same f g (p t.bytes.now t.at) h; same = refl }

-- where x was read, the rest is seen through a function that has it
pub one_more : {A S : Type 0} (f g : List A → S) (q : Parser A) (rest : A → Parser (List A)) {x : A} {t u : Text}
    → Reads q t (got x) u → ((xs : List A) → f (x ∷ xs) ≡ g xs) → Left (seen f (q >>= λ y. rest y >>= λ l. pure (y ∷ l))) t (seen g (rest x)) u
one_more {A} f g q rest {x = x} {t} {u} e same = record { read = rw (← e.read, e.same) (more (rest x t.bytes.now u.at)); same = e.same }
  where
    more : (r : Reading (List A)) → map_reading f (next r (λ xs i. got (x ∷ xs) i)) ≡ map_reading g r
    more (refused n) = refl
    more (got xs i) = ap (λ y. got y i) (same xs)

-- ---- things read one after the other

module _ {A S : Type 0} (q : ℕ → Parser A) (f : List A → S) (left : ℕ) {whole : Parser S} {old t : Text} (l : Left whole old (seen f (repeat left q)) t) where
  pub fill_end : left ≤ 0 → Reads whole old (got (f [])) t
  unfolding repeat
  fill_end h =
      let z : left ≡ 0 = omega arith in
      ends (subst (λ (k : ℕ). Left whole old (seen f (repeat k q)) t) z l) (done (f []) t)

  module _ (m : ℕ) (h : left ≡ suc m) where
    open_left : Left whole old (seen f (repeat (suc m) q)) t
    open_left = subst (λ (k : ℕ). Left whole old (seen f (repeat k q)) t) h l

    pub fill_fault : {n : ℕ} {u : Text} → Reads (q m) t (λ at. refused n) u → Reads whole old (λ at. refused n) u
    unfolding repeat
    fill_fault e = ends open_left (seen_stop f _ e)

    pub fill_turn : (g : List A → S) {x : A} {u : Text} → Reads (q m) t (got x) u → ((xs : List A) → f (x ∷ xs) ≡ g xs) → Left whole old (seen g (repeat m q)) u
    unfolding repeat
    fill_turn g e same = goes_on open_left _ (one_more f g (q m) (λ x. repeat m q) e same)

-- ---- numbers into the cells of one slice

-- a cell that is filled
pub cell_filled : {A : Type 0} (l : List A) (i : ℕ) (x : A) (c : List A) → i < length l → take i l ++ (x ∷ c) ≡ take (i + 1) (set l i x) ++ c
cell_filled l i x c h = rw (add-one, take-suc-set l i x, append_assoc)

module _
    {A : Type 0} (f : ℕ → A) (q : ℕ → Parser ℕ) (cells : List A) (p left : ℕ) {whole : Parser (List A)} {old t : Text}
    (l : Left whole old (seen (front f cells p) (repeat left q)) t)
  where
    pub row_end : length cells ≤ p → left ≤ 0 → Reads whole old (got cells) t
    row_end y h =
        let z : take p cells ++ [] ≡ cells = append-nil (take p cells) ∙ take_all p cells y in
        subst (λ (c : List A). Reads whole old (got c) t) z (fill_end q (front f cells p) left l h)

    module _ (m : ℕ) (h : left ≡ suc m) where
      pub row_fault : {n : ℕ} {u : Text} → Reads (q m) t (λ at. refused n) u → Reads whole old (λ at. refused n) u
      row_fault g = fill_fault q (front f cells p) left l m h g

      pub row_turn : (n : ℕ) → n ≡ p + 1 → p < length cells → {v : ℕ} {u : Text} (y : A) → Reads (q m) t (got v) u → y ≡ f v → Left whole old (seen (front f (set cells p y) n) (repeat m q)) u
      row_turn n o r {v = v} y g z =
          rw (z, o) (fill_turn q (front f cells p) left l m h (front f (set cells p (f v)) (p + 1)) g (λ vs. cell_filled cells p (f v) (map f vs) r))

-- ---- a part of the cells

-- it has as many cells as it was taken for
pub part_length : {A : Type 0} (cells : List A) (p n : ℕ) → p + n ≤ length cells → length (take (p + n - p) (drop p cells)) ≡ n
part_length cells p n h =
    let k : p + n - p ≡ n = omega arith in
    rw k (length-take-le n (drop p cells) (omega (arith, length-drop p cells)))

-- what the cells up to its end hold once it is filled
pub part_filled : {A : Type 0} (cells : List A) (p n : ℕ) (ys : List A) → p + n ≤ length cells → length ys ≡ length (take (p + n - p) (drop p cells))
    → take (p + n) (put_mid p (p + n - p) cells ys) ≡ take p cells ++ ys
part_filled cells p n ys h e = take-put_mid p (p + n - p) cells ys (p + n) (omega (arith, e, part_length cells p n h)) (omega (arith, h))

-- what stands behind a number is what the line asks for
pub ended : (x m : ℕ) {t u : Text} {said : ℕ → Reading ℕ} → x ≡ ending m → Reads (before x number) t said u → Reads (before (ending m) number) t said u
ended x m {t = t} {u} {said} e h = subst (λ (y : ℕ). Reads (before y number) t said u) e h

-- nothing is filled yet
pub none_yet : {A : Type 0} (f : ℕ → A) (cells : List A) (p : Parser (List ℕ)) (t : Text) → Left (seen (map f) p) t (seen (front f cells 0) p) t
none_yet f cells p t = left_as (map f) (front f cells 0) p t (λ vs. refl)

-- Draws that are kept as they are read. Assumes nothing.
use Prim.Native.Nat.{ℕ, ◌≤◌}
use mathlib.Core.Path.{◌≡◌, refl, ap, sym, ◌∙◌, subst}
use mathlib.Core.List.{List, [], ◌∷◌, ◌++◌, map}
use lib.ListN.{length, take}
use lib.Seq.{length-take-le}
use Rattle.std.proofs.lemmas.List.{take_at}
use Rattle.sheet_reader.specs.sheet_text.declared.Text.{Text}
use Rattle.sheet_reader.specs.sheet_text.Text.{Reading, refused, got, map_reading, Parser, before, lf, number, repeat}
use Rattle.sheet_reader.specs.sheet_text.Told.{Reads, seen}
use Rattle.sheet_reader.specs.SheetTextReadLaws.{Left}
use Rattle.sheet_reader.specs.Cells.{front}

-- nothing is filled yet
pub none_yet : (cells : List ℕ) (p : Parser (List ℕ)) (t : Text) → Left p t (seen (front (λ (v : ℕ). v) cells 0) p) t
none_yet cells p t = record { read = kept (p t.bytes.now t.at); same = refl }
  where
    itself : (l : List ℕ) → l ≡ map (λ (v : ℕ). v) l
    itself [] = refl
    itself (x ∷ l) = ap (λ m. x ∷ m) (itself l)

    kept : (r : Reading (List ℕ)) → r ≡ map_reading (λ l. map (λ (v : ℕ). v) l) r
    kept (refused n) = refl
    kept (got l i) = ap (λ m. got m i) (itself l)

-- a part of m cells is filled with m draws
module _ (m : ℕ) (cells : List ℕ) (h : m ≤ length cells) where
  abbrev draws_of : ℕ → Parser (List ℕ)
  draws_of k = repeat k (λ left. before lf number)

  pub draws_read : {said : ℕ → Reading (List ℕ)} {t u : Text} → Reads (draws_of (length (take m cells))) t said u → Reads (draws_of m) t said u
  draws_read {said} {t} {u} e = subst (λ (k : ℕ). Reads (draws_of k) t said u) (length-take-le m cells h) e

  pub draws_kept : {ys : List ℕ} (rest : List ℕ) {t u : Text} → length ys ≡ length (take m cells) → Reads (draws_of (length (take m cells))) t (got ys) u
      → Reads (draws_of m) t (got (take m (ys ++ rest))) u
  draws_kept {ys} rest {t} {u} e g = subst (λ (l : List ℕ). Reads (draws_of m) t (got l) u) (sym (take_at ys rest m (e ∙ length-take-le m cells h))) (draws_read g)

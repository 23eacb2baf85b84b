-- The sections of the distances and of the times. Assumes nothing.
use Prim.Native.Nat.{ℕ, ◌*◌}
use mathlib.Core.Path.{◌≡◌, refl, ap, sym, ◌∙◌, subst}
use mathlib.Core.Bool.{◌||◌}
use mathlib.Core.List.{List}
use lib.Dec.{eqb}
use lib.ListN.{take}
use borrow.Author.Tests.{eq-eqb, ne_eqb}
use lib.Ieee.{Float}
use Rattle.std.specs.Prelude.{Result, Ok, Err}
use Rattle.sheet_squares.specs.sheet_text.declared.Text.{Text}
use Rattle.sheet_squares.specs.sheet_text.Text.{Reading, refused, got, Parser, ◌>>◌, check, repeat}
use Rattle.sheet_squares.specs.sheet_text.Told.{Reads, told_as, seen}
use Rattle.sheet_squares.specs.sheet_text.refusal.declared.Refusal.{Refusal}
use Rattle.sheet_squares.specs.SheetTextReadLaws.{then, stop, done, got_of, refused_of}
use Rattle.sheet_squares.specs.plan.Plan.{flat}
use Rattle.sheet_squares.specs.models.Problem.{DistanceMatrix, matrix}
use Rattle.sheet_squares.specs.sheet_format.Form.{square, distances, times, roads, row_by_row}

-- ---- times

module _ (n m : ℕ) where
  -- what follows the count m
  abbrev rest_of_times : Parser (List Float)
  rest_of_times = seen row_by_row (check (eqb m 0 || eqb m n) 11 >> square m)

  pub times_none : {t : Text} (cells : List Float) → m ≡ 0 → Reads rest_of_times t (got (take (0 * 0) cells)) t
  unfolding repeat flat
  times_none cells e = record { read = rw e refl; same = refl }

  pub times_other : {t : Text} → (m ≡ 0 → ⊥) → (m ≡ n → ⊥) → Reads rest_of_times t (λ at. refused 11) t
  times_other z e = record { read = rw (ne_eqb m 0 z, ne_eqb m n e) refl; same = refl }

  pub times_all : {said : ℕ → Reading (List Float)} {t u : Text} → (m ≡ 0 → ⊥) → m ≡ n → Reads (seen row_by_row (square n)) t said u → Reads rest_of_times t said u
  times_all {said} {t} {u} z e g = record {
    read = rw (ne_eqb m 0 z, eq-eqb m n e) (subst (λ (k : ℕ). Reads (seen row_by_row (square k)) t said u) (sym e) g).read;
    same = g.same;
  }

-- ---- distances, and then times

module _ (n : ℕ) {t u : Text} where
  pub no_distances : {k : ℕ} → Reads (seen row_by_row (distances n)) t (λ at. refused k) u → Reads (roads n) t (λ at. refused k) u
  unfolding roads
  no_distances g = stop _ (refused_of row_by_row g)

  pub both_roads : {cells : List Float} (others : List Float) (r : Result ℕ Refusal) {w : Text}
      → Reads (seen row_by_row (distances n)) t (got cells) u → Reads (seen row_by_row (times n)) u (told_as (λ m. take (m * m) others) r) w
      → Reads (roads n) t (told_as (λ m. matrix n cells (take (m * m) others)) r) w
  unfolding roads
  both_roads {cells} others (Ok m) {w} d g =
      let x = got_of row_by_row d in
      let y = got_of row_by_row g in
      let e : matrix n (row_by_row x.0) (row_by_row y.0) ≡ matrix n cells (take (m * m) others) =
      ap (λ (l : List Float). matrix n l (row_by_row y.0)) (sym x.2) ∙ ap (λ (l : List Float). matrix n cells l) (sym y.2) in
      subst (λ (z : DistanceMatrix). Reads (roads n) t (got z) w) e (then _ x.1 (then _ y.1 (done _ _)))
  both_roads others (Err k) d g =
      let x = got_of row_by_row d in
      then _ x.1 (stop _ (refused_of row_by_row g))

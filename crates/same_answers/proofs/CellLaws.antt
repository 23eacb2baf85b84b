-- Slices of numbers are compared cell by cell. Assumes nothing.
use Rattle.std.proofs.Common.{◌≡◌, ℕ, List, [], ◌∷◌, refl, ap, nat_eq, ◌&&◌, Bool}
use Rattle.std.specs.Cmp.Lexicographic.{pointwise}
use Rattle.stored_answers.specs.Answers.{same_cells}

pub compared_cells : (xs ys : List ℕ) → pointwise nat_eq xs ys ≡ same_cells xs ys
unfolding same_cells
compared_cells [] [] = refl
compared_cells [] (y ∷ ys) = refl
compared_cells (x ∷ xs) [] = refl
compared_cells (x ∷ xs) (y ∷ ys) = ap (λ (t : Bool). nat_eq x y && t) (compared_cells xs ys)

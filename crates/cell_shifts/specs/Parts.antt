-- The cells in use, which are the first of a lent slice, with a stop put in or some taken out: what becomes of the whole slice. Assumes nothing.
use Rattle.std.specs.Prelude.{◌≡◌, ℕ, suc, ◌+◌, ◌-◌, ◌≤◌, ◌<◌, List, ◌∷◌, ◌++◌, length, take, drop}
use Rattle.std.proofs.Common.{◌∙◌, append_assoc, arith, take-append-drop, take-take, drop-drop, length-take-le}
use Rattle.std.proofs.Math.Seq.{take-append-add}
use Rattle.cells.specs.laws.Lists.{drop_take}
use Rattle.cells.specs.laws.Edits.{insert_at, cut}

module _ {A : Type 0} where
  -- a stop put in, and the last one fallen out
  pub insert_at_part : (s : List A) (p : ℕ) (c : A) → p < length s → take (length s) (insert_at p c s) ≡ take p s ++ take (length s - p) (c ∷ drop p s)
  unfolding insert_at
  insert_at_part s p c h =
      let e : length (take p s) + (length s - p) ≡ length s = omega (arith, length-take-le p s (omega arith)) in
      rw e at (take-append-add (take p s) (c ∷ drop p s) (length s - p))

  module _ (s : List A) (u : ℕ) where
    -- one cell more is lent than is in use, and what stood in it falls out
    pub insert_at_in_use : (p : ℕ) (c : A) → p ≤ u → u < length s
        → take (length (take (u + 1) s)) (insert_at p c (take (u + 1) s)) ≡ insert_at p c (take u s)
    unfolding insert_at
    insert_at_in_use p c h k =
        let n : length (take (u + 1) s) ≡ u + 1 = length-take-le (u + 1) s (omega arith) in
        let e : u + 1 - p ≡ suc (u - p) = omega arith in
        insert_at_part (take (u + 1) s) p c (omega arith)
        ∙ rw (n, e) (simp (take-take p (u + 1) s (omega arith), take-take p u s h, drop_take, e, take-take (u - p) (suc (u - p)) (drop p s) (omega arith)))

    -- the cells in use are lent; the last n of them keep their values
    pub cut_in_use : (p n : ℕ) → p + n ≤ u → u ≤ length s
        → (cut p n (take u s) ++ drop (length (take u s) - n) (take u s)) ++ drop u s ≡ cut p n (take u s) ++ drop (u - n) s
    cut_in_use p n h k =
        let l : length (take u s) ≡ u = length-take-le u s k in
        let a : u - (u - n) ≡ n = omega arith in
        let b : u - n + n ≡ u = omega arith in
        let z : take n (drop (u - n) s) ++ drop u s ≡ drop (u - n) s =
        rw b at (rw (drop-drop n (u - n) s) at (take-append-drop n (drop (u - n) s))) in
        rw (l, drop_take (u - n) u s, a, append_assoc, z)

-- Cells that move: a tail that is shifted, what the loop has done before turn i, and the cells around it; and the cells after a copy within them. Assumes nothing.
use Rattle.std.proofs.Common.{◌≡◌, ◌∙◌, ℕ, ◌+◌, ◌-◌, ◌≤◌, ◌<◌, List, [], ◌∷◌, ◌++◌, length, take, drop, set, get_or, sym, refl, arith, add-one, zero-le, append_assoc, append-nil, drop_of_length-le, length-drop, length-set}
use Rattle.std.proofs.lemmas.List.{take_all}
use Rattle.std.proofs.lemmas.List.Edits.{paste_all}
use Rattle.std.specs.List.{copy_within}
use Rattle.cells.specs.laws.Edits.{insert_at, cut}
use Rattle.cells.specs.laws.Overwrite.{mix, mix_more, mix_get, mix_end}
use Rattle.cell_shifts.specs.Parts.{insert_at_part}

-- ---- `shift_right`: the first i cells of t are those of c and t₀, and the next of them is carried

pub record Shifting (t₀ : List ℕ) (c : ℕ) (t : List ℕ) (carry i : ℕ) : Type 0 where
  pub within : i ≤ length t₀
  pub size : length t ≡ length t₀
  pub cells : t ≡ mix (c ∷ t₀) t₀ i
  pub carried : carry ≡ get_or (c ∷ t₀) i 0

module _ (t₀ : List ℕ) (c : ℕ) where
  pub shifting_none : Shifting t₀ c t₀ c 0
  shifting_none = record { within = zero-le; size = refl; cells = refl; carried = refl }

  pub shifting_more : (t : List ℕ) (carry i : ℕ) → Shifting t₀ c t carry i → i < length t → Shifting t₀ c (set t i carry) (get_or t i 0) (i + 1)
  shifting_more t carry i s h =
      let k : i < length t₀ = omega (arith, s.size) in
      record {
        within = omega arith;
        size = length-set t i carry ∙ s.size;
        cells = rw (s.cells, s.carried) (mix_more (c ∷ t₀) t₀ i 0 (omega arith) k);
        carried = rw (s.cells, add-one) (mix_get (c ∷ t₀) t₀ i i 0 (omega arith) (omega arith) (omega arith));
      }

  pub shifting_all : (t : List ℕ) (carry i : ℕ) → Shifting t₀ c t carry i → length t ≤ i → t ≡ take (length t₀) (c ∷ t₀)
  shifting_all t carry i s h =
      let e : i ≡ length t₀ = omega (arith, s.size, s.within) in
      s.cells ∙ rw e (mix_end (c ∷ t₀) t₀ (length t₀) (omega arith))

-- ---- a lent part, shifted or cut

module _ (s : List ℕ) (p : ℕ) where
  -- the tail is shifted
  pub inserted : {t : List ℕ} (c : ℕ) → p < length s → t ≡ take (length (take (length s - p) (drop p s))) (c ∷ take (length s - p) (drop p s))
      → take p s ++ (t ++ drop (length s - p) (drop p s)) ≡ take (length s) (insert_at p c s)
  inserted c h e =
      let w : take (length s - p) (drop p s) ≡ drop p s = take_all (length s - p) (drop p s) (rw length-drop (omega arith)) in
      let r : drop (length s - p) (drop p s) ≡ [] = drop_of_length-le (drop p s) {i = length s - p} (rw length-drop (omega arith)) in
      rw (e, w, r, append-nil, length-drop p s) (sym (insert_at_part s p c h))

  pub cut_out : {t : List ℕ} (n : ℕ) → p + n ≤ length s → t ≡ copy_within s (p + n) (length s) p → t ≡ cut p n s ++ drop (length s - n) s
  unfolding cut
  cut_out n h e =
      let a : p + (length s - (p + n)) ≡ length s - n = omega arith in
      e ∙ paste_all s p (drop (p + n) s) (length s - (p + n)) (sym (length-drop (p + n) s)) ∙ rw (a, append_assoc)

-- Two elements or two parts of a list exchanged. Assumes nothing.
use Rattle.std.specs.Prelude.{ℕ, suc, ◌+◌, ◌-◌, ◌≤◌, ◌<◌, ◌≡◌, List, ◌∷◌, ◌++◌, get_or, set}
use Rattle.std.proofs.Common.{ap, sym, ◌∙◌, append_assoc, length-append, length-drop, length-set, get_or-drop, length-take-le}
use native.Mathlib.Omega.{arith}
use Rattle.std.proofs.Math.ListN.{length, take, drop}
use Rattle.std.proofs.Math.Seq.{take_at, drop_at, take-append_seam, drop-append_seam, drop-drop, split_at, paste}
use Rattle.std.proofs.lemmas.List.{set_comm, set_at}
use Rattle.laws.specs.Lists.{exchange}

-- the elements of xs from f up to t, as `&xs[f..t]` reads
abbrev pub part : {A : Type 0} → ℕ → ℕ → List A → List A
part f t xs = take (t - f) (drop f xs)

-- xs with its elements at i and j exchanged: `slice::swap`
unfoldable pub swap : ℕ → ℕ → List ℕ → List ℕ
swap i j xs = set (set xs i (get_or xs j 0)) j (get_or xs i 0)

-- xs with its part from a to b exchanged with its part from x to y, further right
unfoldable pub swap_parts : {A : Type 0} → ℕ → ℕ → ℕ → ℕ → List A → List A
swap_parts a b x y xs = take a xs ++ (part x y xs ++ (part b x xs ++ (part a b xs ++ drop y xs)))

pub length_swap : (i j : ℕ) (xs : List ℕ) → length (swap i j xs) ≡ length xs
unfolding swap
length_swap i j xs = simp length-set

pub swap_comm : (i j : ℕ) (xs : List ℕ) → (i ≡ j → ⊥) → swap i j xs ≡ swap j i xs
unfolding swap
swap_comm i j xs h = set_comm xs i j (get_or xs j 0) (get_or xs i 0) h

module _ {A : Type 0} where
  -- four parts after a first, the second and the fourth exchanged
  pub swap_parts_of : (P Q M R Z : List A) (a b x y : ℕ) → a ≡ length P → b ≡ a + length Q → x ≡ b + length M → y ≡ x + length R
      → swap_parts a b x y (P ++ (Q ++ (M ++ (R ++ Z)))) ≡ P ++ (R ++ (M ++ (Q ++ Z)))
  unfolding swap_parts
  swap_parts_of P Q M R Z a b x y ea eb ex ey =
      let l = P ++ (Q ++ (M ++ (R ++ Z))) in
      let tP : take a l ≡ P = take_at P (Q ++ (M ++ (R ++ Z))) a (sym ea) in
      let dP : drop a l ≡ Q ++ (M ++ (R ++ Z)) = drop_at P (Q ++ (M ++ (R ++ Z))) a (sym ea) in
      let dQ : drop b l ≡ M ++ (R ++ Z) = rw (eb, ← drop-drop (length Q) a l, dP) (drop-append_seam Q (M ++ (R ++ Z))) in
      let dM : drop x l ≡ R ++ Z = rw (ex, ← drop-drop (length M) b l, dQ) (drop-append_seam M (R ++ Z)) in
      let dR : drop y l ≡ Z = rw (ey, ← drop-drop (length R) x l, dM) (drop-append_seam R Z) in
      let nQ : b - a ≡ length Q = omega arith in
      let nM : x - b ≡ length M = omega arith in
      let nR : y - x ≡ length R = omega arith in
      rw (tP, dP, dQ, dM, dR, nQ, nM, nR, take-append_seam Q (M ++ (R ++ Z)), take-append_seam M (R ++ Z), take-append_seam R Z)

  -- In code: all from a to y is copied out to w, and its three parts are put down again from a on, the outer two in each other's place.
  pub swap_parts_copied : (s w : List A) (a b x y : ℕ) {W S1 S2 S3 : List A} → a ≤ b → b ≤ x → x ≤ y → y ≤ length s
      → W ≡ paste w 0 (drop a s) (y - a)
      → S1 ≡ paste s a (drop (x - a) W) (y - x)
      → S2 ≡ paste S1 (a + (y - x)) (drop (b - a) W) (x - b)
      → S3 ≡ paste S2 (a + (y - x) + (x - b)) (drop 0 W) (b - a)
      → S3 ≡ swap_parts a b x y s
  unfolding swap_parts
  swap_parts_copied s w a b x y h g f r ew e1 e2 e3 = exchange s w a b x y h g f r ew e1 e2 e3

  -- a list taken apart at two places
  pub split_at_two : (xs : List A) (a b : ℕ) (d : A) → a < b → b < length xs
      → xs ≡ take a xs ++ get_or xs a d ∷ (part (suc a) b xs ++ get_or xs b d ∷ drop (suc b) xs)
  split_at_two xs a b d h k =
      let D = drop (suc a) xs in
      let n : suc a + (b - suc a) ≡ b = omega arith in
      let m : suc a + suc (b - suc a) ≡ suc b = omega arith in
      let g : get_or D (b - suc a) d ≡ get_or xs b d = rw (get_or-drop (suc a) xs (b - suc a) d, n) in
      let f : drop (suc (b - suc a)) D ≡ drop (suc b) xs = rw (drop-drop (suc (b - suc a)) (suc a) xs, m) in
      let e : D ≡ take (b - suc a) D ++ get_or xs b d ∷ drop (suc b) xs =
      split_at D (b - suc a) d (rw length-drop (omega arith)) ∙ rw (g, f) in
      split_at xs a d (omega arith) ∙ ap (λ (z : List A). take a xs ++ get_or xs a d ∷ z) e

  -- two elements of it replaced
  pub set_two : (xs : List A) (a b : ℕ) (d u v : A) → a < b → b < length xs
      → set (set xs a u) b v ≡ take a xs ++ u ∷ (part (suc a) b xs ++ v ∷ drop (suc b) xs)
  set_two xs a b d u v h k =
      let X = take a xs in
      let Y = part (suc a) b xs in
      let Z = drop (suc b) xs in
      let y = get_or xs b d in
      let lX : length X ≡ a = length-take-le a xs (omega arith) in
      let lY : length Y ≡ b - suc a = length-take-le (b - suc a) (drop (suc a) xs) (rw length-drop (omega arith)) in
      let s1 : set xs a u ≡ X ++ u ∷ (Y ++ y ∷ Z) =
      ap (λ (q : List A). set q a u) (split_at_two xs a b d h k) ∙ set_at X (get_or xs a d) (Y ++ y ∷ Z) u a lX in
      let l : length (X ++ u ∷ Y) ≡ b = rw length-append (omega arith) in
      rw (s1, ← append_assoc X (u ∷ Y) (y ∷ Z)) (set_at (X ++ u ∷ Y) y Z v b l ∙ rw (append_assoc X (u ∷ Y) (v ∷ Z)))

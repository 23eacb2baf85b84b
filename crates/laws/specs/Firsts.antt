-- The first in sorted order that passes a test is the best so far after one pass over the list as it stands: no list is sorted.
-- Folds over lists that are made of others are loops. Assumes nothing.
use Prim.Native.Nat.{ℕ, zero, suc, ◌+◌, ◌<◌}
use Rattle.std.specs.Prelude.{◌≡◌, Bool, length, take, ℤ, pos, negsuc}
use Rattle.std.proofs.Math.Path.{refl, ap, sym}
use Rattle.std.proofs.Common.{◌∙◌, true≢false, not-suc-le-zero, arith, get_or-take, lt-ltb, le-ltb, ltb-true, ltb-false}
use Rattle.std.proofs.Math.Bool.{true, false, cond}
use mathlib.Core.List.{List, [], ◌∷◌, ◌++◌, map, flat_map}
use Rattle.std.specs.Prelude.{Option, None, Some}
use Rattle.std.proofs.Math.ListN.{get_or, drop}
use Rattle.std.proofs.Math.Seq.{split_at, length-take-le}
use Rattle.std.specs.Int.Signed.{lt_z}
use Rattle.laws.specs.All.{All, all_nil, all_cons, all_of, all_drop}
use Rattle.laws.specs.Edits.{erase, length_erase}
use Rattle.laws.specs.Keeps.{keep}
use Rattle.laws.specs.Loops.{loop, loop_rule, foldl, up_to}
use Rattle.laws.specs.Sorts.{range, least_at, smallest, sort_by}

-- ---- folds

pub foldl_append : {A S : Type 0} (f : S → A → S) (s : S) (xs ys : List A) → foldl f s (xs ++ ys) ≡ foldl f (foldl f s xs) ys
unfolding foldl
foldl_append f s [] ys = refl
foldl_append f s (x ∷ xs) ys = foldl_append f (f s x) xs ys

module _ {A B S : Type 0} (f : S → B → S) where
  pub foldl_map : (g : A → B) (s : S) (xs : List A) → foldl f s (map g xs) ≡ foldl (λ t x. f t (g x)) s xs
  unfolding foldl
  foldl_map g s [] = refl
  foldl_map g s (x ∷ xs) = foldl_map g (f s (g x)) xs

  pub foldl_flat : (g : A → List B) (s : S) (xs : List A) → foldl f s (flat_map g xs) ≡ foldl (λ t x. foldl f t (g x)) s xs
  unfolding foldl flat_map
  foldl_flat g s [] = refl
  foldl_flat g s (x ∷ xs) = foldl_append f s (g x) (flat_map g xs) ∙ foldl_flat g (foldl f s (g x)) xs

-- what is not kept is passed over
pub foldl_keep : {A S : Type 0} (f : S → A → S) (t : A → Bool) (s : S) (xs : List A) → foldl f s (keep t xs) ≡ foldl (λ u x. cond (t x) (f u x) u) s xs
unfolding foldl keep
foldl_keep f t s [] = refl
foldl_keep {A} {S} f t s (x ∷ xs) = go (t x) (λ u. foldl_keep f t u xs)
  where
    go : (b : Bool) → ((u : S) → foldl f u (keep t xs) ≡ foldl (λ v y. cond (t y) (f v y) v) u xs)
        → foldl f s (cond b (x ∷ []) [] ++ keep t xs) ≡ foldl (λ v y. cond (t y) (f v y) v) (cond b (f s x) s) xs
    go true h = h (f s x)
    go false h = h s

range_last : (i n : ℕ) → range i (suc n) ≡ range i n ++ ((i + n) ∷ [])
unfolding range
range_last i zero = let e : i ≡ i + 0 = omega arith in ap (λ (k : ℕ). k ∷ []) e
range_last i (suc n) =
    let e : suc i + n ≡ i + suc n = omega arith in
    ap (λ (l : List ℕ). i ∷ l) (range_last (suc i) n ∙ ap (λ (k : ℕ). range (suc i) n ++ (k ∷ [])) e)

-- a fold over a range is a counted loop
pub foldl_range : {S : Type 0} (f : S → ℕ → S) (s : S) (n : ℕ) → foldl f s (range 0 n) ≡ loop n (λ i t. f t i) s
unfolding foldl loop range
foldl_range f s zero = refl
foldl_range {S} f s (suc n) =
    let e : 0 + n ≡ n = omega arith in
    ap (λ (l : List ℕ). foldl f s l) (range_last 0 n)
    ∙ foldl_append f s (range 0 n) ((0 + n) ∷ [])
    ∙ ap (λ (k : ℕ). f (foldl f s (range 0 n)) k) e
    ∙ ap (λ (t : S). f t n) (foldl_range f s n)

-- ---- orders

-- what a sort asks of its order: no element is before itself, and of one before another every third is after the one or before the other
pub record Ordering {A : Type 0} (before : A → A → Bool) : Type 0 where
  pub itself : (a : A) → before a a ≡ false
  pub through : (a b c : A) → before a b ≡ true → before b c ≡ true → before a c ≡ true
  pub between : (a b c : A) → before a c ≡ true → before b c ≡ false → before a b ≡ true

-- by a signed key
pub ordering_by : {A : Type 0} (key : A → ℤ) → Ordering (λ a b. lt_z (key a) (key b))
ordering_by {A} key =
    record {
      itself = λ a. self (key a);
      through = λ a b c. thru (key a) (key b) (key c);
      between = λ a b c. mid (key a) (key b) (key c);
    }
  where
    self : (x : ℤ) → lt_z x x ≡ false
    self (pos a) = le-ltb a a (omega arith)
    self (negsuc a) = le-ltb a a (omega arith)

    thru : (x y z : ℤ) → lt_z x y ≡ true → lt_z y z ≡ true → lt_z x z ≡ true
    thru (pos a) (pos b) (pos c) h k = lt-ltb a c (omega (arith, ltb-true a b h, ltb-true b c k))
    thru (pos a) (pos b) (negsuc c) h k = k
    thru (pos a) (negsuc b) z h k = absurd (true≢false (sym h))
    thru (negsuc a) (pos b) (pos c) h k = refl
    thru (negsuc a) (pos b) (negsuc c) h k = absurd (true≢false (sym k))
    thru (negsuc a) (negsuc b) (pos c) h k = refl
    thru (negsuc a) (negsuc b) (negsuc c) h k = lt-ltb c a (omega (arith, ltb-true b a h, ltb-true c b k))

    mid : (x y z : ℤ) → lt_z x z ≡ true → lt_z y z ≡ false → lt_z x y ≡ true
    mid (pos a) (pos b) (pos c) h k = lt-ltb a b (omega (arith, ltb-true a c h, ltb-false b c k))
    mid (pos a) (negsuc b) (pos c) h k = absurd (true≢false k)
    mid (pos a) y (negsuc c) h k = absurd (true≢false (sym h))
    mid (negsuc a) (pos b) z h k = refl
    mid (negsuc a) (negsuc b) (pos c) h k = absurd (true≢false k)
    mid (negsuc a) (negsuc b) (negsuc c) h k = lt-ltb b a (omega (arith, ltb-true c a h, ltb-false c b k))

-- ---- the first that passes

-- `iter().find(f)`
unfoldable pub find : {A : Type 0} → (A → Bool) → List A → Option A
find f [] = None
find f (x ∷ xs) = cond (f x) (Some x) (find f xs)

module _ {A : Type 0} (before : A → A → Bool) where
  -- x comes before the best so far
  abbrev pub leads : A → Option A → Bool
  leads x None = true
  leads x (Some best) = before x best

  -- the best so far after a look at x: the first of equals stays
  unfoldable pub better : (A → Bool) → Option A → A → Option A
  better f best x = cond (leads x best) (cond (f x) (Some x) best) best

  module _ (f : A → Bool) where
    -- one that fails the test changes nothing
    better_fails : (best : Option A) (x : A) → f x ≡ false → better f best x ≡ best
    unfolding better
    better_fails best x e = rw e (go (leads x best))
      where
        go : (b : Bool) → cond b best best ≡ best
        go true = refl
        go false = refl

    better_takes : (best : Option A) (x : A) → leads x best ≡ true → f x ≡ true → better f best x ≡ Some x
    unfolding better
    better_takes best x h e = rw (h, e)

    -- one before all of these and the best so far leads after them
    still_leads : (x : A) (best : Option A) {xs : List A} → All (λ y. before x y ≡ true) xs → leads x best ≡ true → leads x (foldl (better f) best xs) ≡ true
    unfolding foldl better
    still_leads x best all_nil h = h
    still_leads x best (all_cons {x = y} e a) h = still_leads x (better f best y) a (go (leads y best) (f y))
      where
        go : (b c : Bool) → leads x (cond b (cond c (Some y) best) best) ≡ true
        go true true = e
        go true false = h
        go false c = h

    -- one that none of these is before stays
    stays : (x : A) {xs : List A} → All (λ y. before y x ≡ false) xs → foldl (better f) (Some x) xs ≡ Some x
    unfolding foldl better
    stays x all_nil = refl
    stays x (all_cons e a) = rw e (stays x a)

    module _ (o : Ordering before) (d : A) where
      record Foremost (xs : List A) (m best : ℕ) : Type 0 where
        inside : best < length xs
        none_before : (j : ℕ) → j < m → before (get_or xs j d) (get_or xs best d) ≡ false
        first : (j : ℕ) → j < best → before (get_or xs best d) (get_or xs j d) ≡ true

      foremost_turn : (xs : List A) (m best : ℕ) (t : Bool) → before (get_or xs m d) (get_or xs best d) ≡ t → m < length xs → Foremost xs m best → Foremost xs (suc m) (cond t m best)
      foremost_turn xs m best true e h s =
          record {
            inside = h;
            none_before = λ j k. up_to m j k (λ g. not_before j (before (get_or xs j d) (get_or xs m d)) refl g) (λ g. rw g (o.itself (get_or xs m d)));
            first = λ j k. o.between (get_or xs m d) (get_or xs j d) (get_or xs best d) e (s.none_before j k);
          }
        where
          not_before : (j : ℕ) (u : Bool) → before (get_or xs j d) (get_or xs m d) ≡ u → j < m → u ≡ false
          not_before j true p g = absurd (true≢false (sym (o.through (get_or xs j d) (get_or xs m d) (get_or xs best d) p e) ∙ s.none_before j g))
          not_before j false p g = refl
      foremost_turn xs m best false e h s =
          record { inside = s.inside; none_before = λ j k. up_to m j k (λ g. s.none_before j g) (λ g. rw g e); first = s.first }

      foremost : (xs : List A) → 0 < length xs → Foremost xs (length xs) (least_at before d xs)
      unfolding least_at
      foremost xs h =
          loop_rule (λ m best. Foremost xs m best) (length xs) (λ i best. cond (before (get_or xs i d) (get_or xs best d)) i best)
          (λ i best g s. foremost_turn xs i best (before (get_or xs i d) (get_or xs best d)) refl g s)
          (record { inside = h; none_before = λ j k. absurd (not-suc-le-zero k); first = λ j k. absurd (not-suc-le-zero k) })

      module _ (xs : List A) (i : ℕ) (h : Foremost xs (length xs) i) where
        -- where the foremost passes it is the best of all
        takes : f (get_or xs i d) ≡ true → Some (get_or xs i d) ≡ foldl (better f) None xs
        unfolding foldl
        takes e =
            let x = get_or xs i d in
            let earlier : All (λ y. before x y ≡ true) (take i xs) =
            all_of (take i xs) d (λ j g. rw (get_or-take i xs j d (omega (arith, length-take-le i xs (omega (arith, h.inside))))) (h.first j (omega (arith, length-take-le i xs (omega (arith, h.inside)))))) in
            let later : All (λ y. before y x ≡ false) (drop (suc i) xs) = all_drop (suc i) (all_of xs d (λ j g. h.none_before j g)) in
            let lead : leads x (foldl (better f) None (take i xs)) ≡ true = still_leads x None earlier refl in
            sym (ap (λ (l : List A). foldl (better f) None l) (split_at xs i d h.inside)
            ∙ foldl_append (better f) None (take i xs) (x ∷ drop (suc i) xs)
            ∙ ap (λ (t : Option A). foldl (better f) t (drop (suc i) xs)) (better_takes (foldl (better f) None (take i xs)) x lead e)
            ∙ stays x later)

        -- where it fails the best is that of the others
        leaves : f (get_or xs i d) ≡ false → foldl (better f) None (erase i xs) ≡ foldl (better f) None xs
        unfolding erase foldl
        leaves e =
            foldl_append (better f) None (take i xs) (drop (suc i) xs)
            ∙ sym (ap (λ (l : List A). foldl (better f) None l) (split_at xs i d h.inside)
            ∙ foldl_append (better f) None (take i xs) (get_or xs i d ∷ drop (suc i) xs)
            ∙ ap (λ (t : Option A). foldl (better f) t (drop (suc i) xs)) (better_fails (foldl (better f) None (take i xs)) (get_or xs i d) e))

      from_smallest : (n : ℕ) (xs : List A) → length xs ≡ n → find f (smallest before d n xs) ≡ foldl (better f) None xs
      unfolding smallest find foldl
      from_smallest zero [] e = refl
      from_smallest zero (x ∷ xs) e = absurd (omega arith)
      from_smallest (suc n) xs e =
          let i = least_at before d xs in
          let h = foremost xs (omega arith) in
          go (f (get_or xs i d)) refl (takes xs i h) (leaves xs i h) (from_smallest n (erase i xs) (omega (arith, length_erase i xs h.inside)))
        where
          go : (b : Bool) → f (get_or xs (least_at before d xs) d) ≡ b
              → (f (get_or xs (least_at before d xs) d) ≡ true → Some (get_or xs (least_at before d xs) d) ≡ foldl (better f) None xs)
              → (f (get_or xs (least_at before d xs) d) ≡ false → foldl (better f) None (erase (least_at before d xs) xs) ≡ foldl (better f) None xs)
              → find f (smallest before d n (erase (least_at before d xs) xs)) ≡ foldl (better f) None (erase (least_at before d xs) xs)
              → cond b (Some (get_or xs (least_at before d xs) d)) (find f (smallest before d n (erase (least_at before d xs) xs))) ≡ foldl (better f) None xs
          go true p g k r = g p
          go false p g k r = r ∙ k p

      pub find_sorted : (xs : List A) → find f (sort_by before d xs) ≡ foldl (better f) None xs
      unfolding sort_by
      find_sorted xs = from_smallest (length xs) xs refl

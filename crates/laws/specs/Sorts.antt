-- A stable sort by repeated picks of the first smallest ("sorts ..: loops and repeated first-smallest picks"). Its length, and what it has,
-- follow from each pick being taken out of what is left, whatever the order. Assumes nothing.
use Prim.Native.Nat.{ℕ, zero, suc, ◌+◌, ◌≤◌, ◌<◌}
use Rattle.std.specs.Prelude.{◌≡◌, Bool, true, false, not, eqb, ltb}
use Rattle.std.proofs.Math.Path.{refl, ap}
use Rattle.std.proofs.Common.{sym, ◌∙◌, le_of_suc-le-suc, not-suc-le-zero, le_refl, arith, eq-eqb, ne_eqb, ltb-true, ltb-false}
use Rattle.std.proofs.Math.Bool.{cond}
use mathlib.Core.List.{List, [], ◌∷◌, ◌++◌}
use Rattle.std.proofs.Math.ListN.{length, get_or}
use Rattle.laws.specs.All.{All, all_nil, all_cons, all_get}
use Rattle.laws.specs.Edits.{erase, length_erase, all_erase}
use Rattle.laws.specs.Keeps.{keep, keep_all}
use Rattle.laws.specs.Loops.{loop, loop_rule, cond_rule, up_to}
use Rattle.laws.specs.Counts.{count, count_erase}

-- i, i + 1, .., n of them
unfoldable pub range : ℕ → ℕ → List ℕ
range i zero = []
range i (suc n) = i ∷ range (suc i) n

-- the place of the first element that no other is before; d is read of no list
unfoldable pub least_at : {A : Type 0} → (A → A → Bool) → A → List A → ℕ
least_at before d xs = loop (length xs) (λ i best. cond (before (get_or xs i d) (get_or xs best d)) i best) 0

-- the n smallest in order, each taken out of what is left
unfoldable pub smallest : {A : Type 0} → (A → A → Bool) → A → ℕ → List A → List A
smallest before d zero xs = []
smallest before d (suc n) xs = let i = least_at before d xs in get_or xs i d ∷ smallest before d n (erase i xs)

-- `sort_by` and `sort_by_key`, which are stable
unfoldable pub sort_by : {A : Type 0} → (A → A → Bool) → A → List A → List A
sort_by before d xs = smallest before d (length xs) xs

-- ---- the range

pub length_range : (i n : ℕ) → length (range i n) ≡ n
unfolding range
length_range i zero = refl
length_range i (suc n) = ap suc (length_range (suc i) n)

pub get_range : (i n k : ℕ) → k < n → get_or (range i n) k 0 ≡ i + k
unfolding range
get_range i zero k h = absurd (not-suc-le-zero h)
get_range i (suc n) zero h = omega arith
get_range i (suc n) (suc k) h = get_range (suc i) n k (le_of_suc-le-suc h) ∙ omega arith

pub all_range : (i n k : ℕ) → i + n ≤ k → All (λ r. r < k) (range i n)
unfolding range
all_range i zero k h = all_nil
all_range i (suc n) k h = all_cons {x = i} (omega arith) (all_range (suc i) n k (omega arith))

-- numbers that rise, from b on at the least
pub data Rising : ℕ → List ℕ → Type 0 where
  rising_nil : {b : ℕ} → Rising b []
  rising_cons : {b x : ℕ} {xs : List ℕ} → b ≤ x → Rising (suc x) xs → Rising b (x ∷ xs)

rising_more : {b c : ℕ} {xs : List ℕ} → b ≤ c → Rising c xs → Rising b xs
rising_more h rising_nil = rising_nil
rising_more {b} h (rising_cons {x = x} g r) = rising_cons {b = b} {x = x} (omega arith) r

pub rising_range : (f : ℕ → Bool) (i n : ℕ) → Rising i (keep f (range i n))
unfolding range keep
rising_range f i zero = rising_nil
rising_range f i (suc n) = go (f i) (rising_range f (suc i) n)
  where
    go : (b : Bool) → Rising (suc i) (keep f (range (suc i) n)) → Rising i (cond b (i ∷ []) [] ++ keep f (range (suc i) n))
    go true r = rising_cons (le_refl i) r
    go false r = rising_more {b = i} {c = suc i} (omega arith) r

pub rising_least : {b : ℕ} (xs : List ℕ) (i : ℕ) → Rising b xs → i < length xs → b ≤ get_or xs i 0
rising_least [] i r h = absurd (not-suc-le-zero h)
rising_least (x ∷ xs) zero (rising_cons g r) h = g
rising_least (x ∷ xs) (suc i) (rising_cons g r) h = omega (arith, rising_least xs i r (le_of_suc-le-suc h))

-- an earlier one is smaller
pub rising_order : {b : ℕ} (xs : List ℕ) (i j : ℕ) → Rising b xs → i < j → j < length xs → get_or xs i 0 < get_or xs j 0
rising_order [] i j r h k = absurd (not-suc-le-zero k)
rising_order (x ∷ xs) i zero r h k = absurd (not-suc-le-zero h)
rising_order (x ∷ xs) zero (suc j) (rising_cons g r) h k = rising_least xs j r (le_of_suc-le-suc k)
rising_order (x ∷ xs) (suc i) (suc j) (rising_cons g r) h k = rising_order xs i j r (le_of_suc-le-suc h) (le_of_suc-le-suc k)

-- taking one out is keeping the others
pub rising_erase : {b : ℕ} (xs : List ℕ) (i : ℕ) → Rising b xs → i < length xs → erase i xs ≡ keep (λ x. not (eqb x (get_or xs i 0))) xs
unfolding erase keep
rising_erase [] i r h = absurd (not-suc-le-zero h)
rising_erase (x ∷ xs) zero (rising_cons g r) h = rw (eq-eqb x x refl) (sym (keep_all (λ y. not (eqb y x)) (others xs r (le_refl (suc x)))))
  where
    others : {c : ℕ} (ys : List ℕ) → Rising c ys → suc x ≤ c → All (λ y. not (eqb y x) ≡ true) ys
    others [] r l = all_nil
    others (y ∷ ys) (rising_cons g r) l = all_cons {x = y} (ap not (ne_eqb y x (λ e. omega arith))) (others ys r (omega arith))
rising_erase (x ∷ xs) (suc i) (rising_cons g r) h =
    let k = rising_least xs i r (le_of_suc-le-suc h) in
    rw (ne_eqb x (get_or xs i 0) (λ e. omega arith)) (ap (λ (l : List ℕ). x ∷ l) (rising_erase xs i r (le_of_suc-le-suc h)))

-- ---- the sort

module _ {A : Type 0} (before : A → A → Bool) (d : A) where
  pub least_inside : (xs : List A) → 0 < length xs → least_at before d xs < length xs
  unfolding least_at
  least_inside xs h =
      loop_rule (λ _ (best : ℕ). best < length xs) (length xs) (λ i best. cond (before (get_or xs i d) (get_or xs best d)) i best)
      (λ i best i-in g. cond_rule (λ (k : ℕ). k < length xs) (before (get_or xs i d) (get_or xs best d)) {x = i} {y = best} (λ _. i-in) (λ _. g)) h

  length_smallest : (n : ℕ) (xs : List A) → length (smallest before d n xs) ≡ n
  unfolding smallest
  length_smallest zero xs = refl
  length_smallest (suc n) xs = ap suc (length_smallest n (erase (least_at before d xs) xs))

  pub length_sort_by : (xs : List A) → length (sort_by before d xs) ≡ length xs
  unfolding sort_by
  length_sort_by xs = length_smallest (length xs) xs

  all_smallest : {P : A → Type 0} (n : ℕ) (xs : List A) → length xs ≡ n → All P xs → All P (smallest before d n xs)
  unfolding smallest
  all_smallest zero xs e a = all_nil
  all_smallest (suc n) xs e a =
      let i = least_at before d xs in
      let h = least_inside xs (omega arith) in
      all_cons (all_get i d a h) (all_smallest n (erase i xs) (omega (arith, length_erase i xs h)) (all_erase i a))

  pub all_sort_by : {P : A → Type 0} {xs : List A} → All P xs → All P (sort_by before d xs)
  unfolding sort_by
  all_sort_by {xs} a = all_smallest (length xs) xs refl a

  -- the first of them, and the rest in order
  pub sort_by_cons : (xs : List A) → 0 < length xs
      → sort_by before d xs ≡ get_or xs (least_at before d xs) d ∷ sort_by before d (erase (least_at before d xs) xs)
  unfolding sort_by smallest
  sort_by_cons xs h = go (length xs) refl
    where
      go : (n : ℕ) → length xs ≡ n → smallest before d n xs ≡ get_or xs (least_at before d xs) d ∷ smallest before d (length (erase (least_at before d xs) xs)) (erase (least_at before d xs) xs)
      go zero e = absurd (omega arith)
      go (suc n) e =
          let i = least_at before d xs in
          let l : length (erase i xs) ≡ n = omega (arith, length_erase i xs (least_inside xs h)) in
          rw l

-- by a key: none has a smaller one than the pick, and each before it has a larger one
module _ {A : Type 0} (key : A → ℕ) (d : A) (xs : List A) where
  pub record Least (m best : ℕ) : Type 0 where
    pub inside : best < length xs
    pub least : (j : ℕ) → j < m → key (get_or xs best d) ≤ key (get_or xs j d)
    pub first : (j : ℕ) → j < best → key (get_or xs best d) < key (get_or xs j d)

  least_turn : (m best : ℕ) (t : Bool) → ltb (key (get_or xs m d)) (key (get_or xs best d)) ≡ t → m < length xs → Least m best → Least (suc m) (cond t m best)
  least_turn m best true e h s =
      let less = ltb-true (key (get_or xs m d)) (key (get_or xs best d)) e in
      record {
        inside = h;
        least = λ j k. up_to m j k (λ g. omega (arith, s.least j g)) (λ g. rw g (le_refl (key (get_or xs m d))));
        first = λ j k. omega (arith, s.least j k);
      }
  least_turn m best false e h s =
      let more = ltb-false (key (get_or xs m d)) (key (get_or xs best d)) e in
      record { inside = s.inside; least = λ j k. up_to m j k (λ g. s.least j g) (λ g. rw g more); first = s.first }

  pub least_key : 0 < length xs → Least (length xs) (least_at (λ a b. ltb (key a) (key b)) d xs)
  unfolding least_at
  least_key h =
      loop_rule (λ m best. Least m best) (length xs) (λ i best. cond (ltb (key (get_or xs i d)) (key (get_or xs best d))) i best)
      (λ i best g s. least_turn i best (ltb (key (get_or xs i d)) (key (get_or xs best d))) refl g s)
      (record { inside = h; least = λ j k. absurd (not-suc-le-zero k); first = λ j k. absurd (not-suc-le-zero k) })

module _ (before : ℕ → ℕ → Bool) (x : ℕ) where
  count_smallest : (n : ℕ) (xs : List ℕ) → length xs ≡ n → count x (smallest before 0 n xs) ≡ count x xs
  unfolding smallest count
  count_smallest zero [] e = refl
  count_smallest zero (y ∷ xs) e = absurd (omega arith)
  count_smallest (suc n) xs e =
      let i = least_at before 0 xs in
      let h = least_inside before 0 xs (omega arith) in
      omega (arith, count_erase x i xs h, count_smallest n (erase i xs) (omega (arith, length_erase i xs h)))

  pub count_sort_by : (xs : List ℕ) → count x (sort_by before 0 xs) ≡ count x xs
  unfolding sort_by
  count_sort_by xs = count_smallest (length xs) xs refl

-- Row 6: stops pass exactly if each occurs once and is a place other than the depot. So what passes does not depend on the order of the stops,
-- and is fewer than the places. Assumes nothing.
use Prim.Native.Nat.{ℕ, zero, suc, ◌+◌, ◌≤◌, ◌<◌}
use mathlib.Core.Path.{◌≡◌, refl, sym, ap, subst, ◌∙◌}
use mathlib.Core.Bool.{Bool, true, false, cond, not, ◌&&◌, ◌||◌, true≢false, false≢true}
use mathlib.Core.List.{List, [], ◌∷◌, ◌++◌}
use native.Mathlib.Nat.{le_refl}
use native.Mathlib.Omega.{arith}
use borrow.Author.Tests.{eqb-true, eqb-false, eq-eqb, ltb-true}
use lib.ListN.{length, get_or, take, drop}
use lib.Seq.{take-suc, take_all, drop-cons}
use lib.Dec.{eqb, ltb}
use Rattle.local_search.specs.laws.Counts.{one_if, count, count_append, count_parts}
use Rattle.local_search.specs.laws.Keeps.{keep}
use Rattle.local_search.specs.laws.Searches.{any, every, and_first, and_second, every_at}
use Rattle.local_search.specs.models.Problem.{Problem, depot}
use Rattle.entry.specs.Table.{stop_passes, stops_pass}

pub both : {a b : Bool} → a ≡ true → b ≡ true → (a && b) ≡ true
both {a} {b} e f = rw (e, f)

pub not_true : (b : Bool) → not b ≡ true → b ≡ false
not_true true e = absurd (false≢true e)
not_true false e = refl

-- ---- `every`, number by number

every_all : (t : ℕ → Bool) (m k : ℕ) → ((j : ℕ) → k ≤ j → j < k + m → t j ≡ true) → every t m k ≡ true
unfolding every
every_all t zero k f = refl
every_all t (suc m) k f = both (f k (le_refl k) (omega arith)) (every_all t m (suc k) (λ j a b. f j (omega arith) (omega arith)))

-- ---- not among the stops, and counted 0 times

absent_count : (c : ℕ) (xs : List ℕ) → any (eqb c) xs ≡ false → count c xs ≡ 0
unfolding count one_if
absent_count c [] e = refl
absent_count c (x ∷ xs) e = go (eqb c x) e (λ f. absent_count c xs f)
  where
    go : (b : Bool) → (b || any (eqb c) xs) ≡ false → (any (eqb c) xs ≡ false → count c xs ≡ 0) → one_if b + count c xs ≡ 0
    go true f rest = absurd (true≢false f)
    go false f rest = omega (arith, rest f)

count_absent : (c : ℕ) (xs : List ℕ) → count c xs ≡ 0 → any (eqb c) xs ≡ false
unfolding count one_if
count_absent c [] e = refl
count_absent c (x ∷ xs) e = go (eqb c x) e (λ f. count_absent c xs f)
  where
    go : (b : Bool) → one_if b + count c xs ≡ 0 → (count c xs ≡ 0 → any (eqb c) xs ≡ false) → (b || any (eqb c) xs) ≡ false
    go true f rest = absurd (omega arith)
    go false f rest = rest (omega arith)

-- ---- stops that pass

abbrev is_stop : Problem → ℕ → Bool
is_stop p c = ltb c p.roads.size && not (eqb c (depot p))

pub record Distinct (p : Problem) (stops : List ℕ) : Type 0 where
  pub once : (c : ℕ) → count c stops ≤ 1
  pub good : (c : ℕ) → 0 < count c stops → is_stop p c ≡ true

-- by counts alone
pub distinct_same : (p : Problem) (xs ys : List ℕ) → ((c : ℕ) → count c xs ≡ count c ys) → Distinct p ys → Distinct p xs
distinct_same p xs ys e d = record { once = λ c. omega (arith, e c, d.once c); good = λ c h. d.good c (omega (arith, e c)) }

module _ (p : Problem) where
  -- a stop that passes after those before it
  distinct_more : (xs : List ℕ) (x : ℕ) → Distinct p xs → stop_passes p xs x ≡ true → Distinct p (xs ++ x ∷ [])
  unfolding stop_passes count one_if
  distinct_more xs x d h =
      record { once = λ c. once c (eqb c x) refl; good = λ c g. good c (eqb c x) refl g }
    where
      place : Bool
      place = ltb x p.roads.size

      stop : is_stop p x ≡ true
      stop = both (and_first place _ h) (and_first (not (eqb x (depot p))) _ (and_second place _ h))

      new : any (eqb x) xs ≡ false
      new = not_true (any (eqb x) xs) (and_second (not (eqb x (depot p))) (not (any (eqb x) xs)) (and_second place _ h))

      counted : (c : ℕ) (b : Bool) → eqb c x ≡ b → count c (xs ++ x ∷ []) ≡ count c xs + (one_if b + 0)
      counted c b e = count_append c xs (x ∷ []) ∙ ap (λ (t : Bool). count c xs + (one_if t + 0)) e

      once : (c : ℕ) (b : Bool) → eqb c x ≡ b → count c (xs ++ x ∷ []) ≤ 1
      once c true e = omega (arith, counted c true e, absent_count c xs (rw (eqb-true c x e) new))
      once c false e = omega (arith, counted c false e, d.once c)

      good : (c : ℕ) (b : Bool) → eqb c x ≡ b → 0 < count c (xs ++ x ∷ []) → is_stop p c ≡ true
      good c true e g = rw (eqb-true c x e) stop
      good c false e g = d.good c (omega (arith, counted c false e))

  module _ (stops : List ℕ) where
    distinct_front : stops_pass p stops ≡ true → (i : ℕ) → i ≤ length stops → Distinct p (take i stops)
    unfolding stops_pass count
    distinct_front h zero l = record { once = λ c. omega arith; good = λ c g. absurd (omega arith) }
    distinct_front h (suc i) l =
        rw (take-suc stops i 0 (omega arith)) (distinct_more (take i stops) (get_or stops i 0) (distinct_front h i (omega arith))
        (every_at (λ k. stop_passes p (take k stops) (get_or stops k 0)) (length stops) i h (omega arith)))

    pub stops_distinct : stops_pass p stops ≡ true → Distinct p stops
    stops_distinct h = rw (take_all (length stops) stops (le_refl (length stops))) at (distinct_front h (length stops) (le_refl (length stops)))

    pub distinct_stops : Distinct p stops → stops_pass p stops ≡ true
    unfolding stops_pass stop_passes count one_if
    distinct_stops d = every_all (λ k. stop_passes p (take k stops) (get_or stops k 0)) (length stops) 0 (λ j _ l. passing j (omega arith))
      where
        passing : (j : ℕ) → j < length stops → stop_passes p (take j stops) (get_or stops j 0) ≡ true
        passing j l =
            let c = get_or stops j 0 in
            let here : count c (drop j stops) ≡ 1 + count c (drop (suc j) stops) = ap (count c) (drop-cons stops j 0 l) ∙ ap (λ (b : Bool). one_if b + count c (drop (suc j) stops)) (eq-eqb c c refl) in
            let parts = count_parts c j stops in
            let g = d.good c (omega (arith, d.once c)) in
            both (and_first (ltb c p.roads.size) (not (eqb c (depot p))) g)
            (both (and_second (ltb c p.roads.size) (not (eqb c (depot p))) g) (ap not (count_absent c (take j stops) (omega (arith, d.once c)))))

-- ---- there are fewer of them than places

abbrev others : ℕ → List ℕ → List ℕ
others n xs = keep (λ c. not (eqb n c)) xs

module _ (n : ℕ) where
  length_others : (xs : List ℕ) → length xs ≡ count n xs + length (others n xs)
  unfolding keep count one_if
  length_others [] = refl
  length_others (x ∷ xs) = go (eqb n x) (length_others xs)
    where
      go : (b : Bool) → length xs ≡ count n xs + length (others n xs)
          → suc (length xs) ≡ one_if b + count n xs + length (cond (not b) (x ∷ []) [] ++ others n xs)
      go true e = omega (arith, e)
      go false e = omega (arith, e)

  count_others : (c : ℕ) (xs : List ℕ) → count c (others n xs) ≤ count c xs
  unfolding keep count one_if
  count_others c [] = omega arith
  count_others c (x ∷ xs) = go (eqb n x) (count_others c xs)
    where
      go : (b : Bool) → count c (others n xs) ≤ count c xs → count c (cond (not b) (x ∷ []) [] ++ others n xs) ≤ one_if (eqb c x) + count c xs
      go true e = omega (arith, e)
      go false e = omega (arith, e)

  count_gone : (xs : List ℕ) → count n (others n xs) ≡ 0
  unfolding keep count one_if
  count_gone [] = refl
  count_gone (x ∷ xs) = go (eqb n x) refl (count_gone xs)
    where
      go : (b : Bool) → eqb n x ≡ b → count n (others n xs) ≡ 0 → count n (cond (not b) (x ∷ []) [] ++ others n xs) ≡ 0
      go true h e = e
      go false h e = omega (arith, e, ap one_if h)

-- numbers below n, none of them twice, are no more than n
below_few : (n : ℕ) (xs : List ℕ) → ((c : ℕ) → count c xs ≤ 1) → ((c : ℕ) → n ≤ c → count c xs ≡ 0) → length xs ≤ n
unfolding count one_if
below_few zero [] once none_from = omega arith
below_few zero (x ∷ xs) once none_from = absurd (omega (arith, none_from x (omega arith), ap one_if (eq-eqb x x refl)))
below_few (suc n) xs once none_from =
    let rest : length (others n xs) ≤ n = below_few n (others n xs) (λ c. omega (arith, count_others n c xs, once c)) (λ c h. go c h (eqb n c) refl) in
    omega (arith, length_others n xs, once n)
  where
    go : (c : ℕ) → n ≤ c → (b : Bool) → eqb n c ≡ b → count c (others n xs) ≡ 0
    go c h true e = subst (λ (k : ℕ). count k (others n xs) ≡ 0) (eqb-true n c e) (count_gone n xs)
    go c h false e = let more : suc n ≤ c = omega (arith, h, eqb-false n c e) in omega (arith, count_others n c xs, none_from c more)

-- what is not counted above 0 is counted 0 times
absent : (n : ℕ) → (0 < n → ⊥) → n ≡ 0
absent zero h = refl
absent (suc n) h = absurd (h (omega arith))

pub distinct_outside : (p : Problem) (stops : List ℕ) → Distinct p stops → (c : ℕ) → p.roads.size ≤ c → count c stops ≡ 0
distinct_outside p stops d c h =
    absent (count c stops) (λ g. omega (arith, h, ltb-true c p.roads.size (and_first (ltb c p.roads.size) (not (eqb c (depot p))) (d.good c g))))

pub distinct_few : (p : Problem) (stops : List ℕ) → Distinct p stops → depot p < p.roads.size → length stops < p.roads.size
unfolding count one_if
distinct_few p stops d h = below_few p.roads.size (depot p ∷ stops) (λ c. once c (eqb c (depot p)) refl) (λ c g. from c g (eqb c (depot p)) refl)
  where
    no_depot : count (depot p) stops ≡ 0
    no_depot = absent (count (depot p) stops) (λ g. true≢false (sym (and_second (ltb (depot p) p.roads.size) _ (d.good (depot p) g)) ∙ ap not (eq-eqb (depot p) (depot p) refl)))

    once : (c : ℕ) (b : Bool) → eqb c (depot p) ≡ b → one_if (eqb c (depot p)) + count c stops ≤ 1
    once c true e = omega (arith, ap one_if e, subst (λ (k : ℕ). count k stops ≡ 0) (sym (eqb-true c (depot p) e)) no_depot)
    once c false e = omega (arith, ap one_if e, d.once c)

    from : (c : ℕ) → p.roads.size ≤ c → (b : Bool) → eqb c (depot p) ≡ b → one_if (eqb c (depot p)) + count c stops ≡ 0
    from c g true e = absurd (omega (arith, g, h, eqb-true c (depot p) e))
    from c g false e = omega (arith, ap one_if e, distinct_outside p stops d c g)

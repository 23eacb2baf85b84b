-- Repeated picks are the stable order by length: what follows no pick is the whole order, and what follows a pick begins with the next pick,
-- behind which stands what follows that one. So a loop over picks tries the routes in the order of the definition.
-- The idea: by (length, index) the next pick is the first smallest of the routes after the last pick, and so is the head of their sorted list;
-- without it, what is left are exactly the routes after it. Assumes nothing.
use Prim.Native.Nat.{ℕ, zero, suc, ◌≤◌, ◌<◌}
use Rattle.std.specs.Prelude.{◌≡◌, Bool, not, ◌&&◌, List, [], ◌∷◌, length}
use Rattle.std.specs.Prelude.{Option, None, Some}
use Rattle.std.proofs.Math.Path.{refl, subst}
use Rattle.std.proofs.Common.{ap, sym, ◌∙◌, true≢false, le_refl, not-suc-le-zero, arith}
use Rattle.std.proofs.Math.Bool.{true, false, cond}
use Rattle.std.proofs.Math.ListN.{get_or}
use Rattle.std.proofs.Math.Dec.{eqb, ltb}
use borrow.Author.Tests.{eq-eqb, ne_eqb, eqb-true, eqb-false, lt-ltb, le-ltb, ltb-true, ltb-false}
use Rattle.plan.specs.laws.All.{All, all_get, all_of, all_map}
use Rattle.plan.specs.laws.Edits.{erase}
use Rattle.plan.specs.laws.Keeps.{keep, keep_all, keep_none, keep_passes, keep_both, keep_same, all_keep, all_kept}
use Rattle.plan.specs.laws.Loops.{loop_rule, up_to}
use Rattle.plan.specs.laws.Sorts.{range, least_at, smallest, sort_by, length_sort_by, sort_by_cons, least_key, Least, get_range, length_range, all_range, rising_range, rising_order, rising_erase}
use Rattle.route_order.specs.declared.Pick.{Pick}
use Rattle.route_order.specs.Order.{by_length, order, at, is_after, shorter, considered, next_pick, following, picked_then, repeated}

-- ---- the test by length and index

module _ {X : Type 0} (i l k n : ℕ) where
  after_cases : is_after (at i l) k n ≡ true → (l < n → X) → (l ≡ n → i < k → X) → X
  unfolding is_after
  after_cases e f g = go (eqb l n) refl e
    where
      go : (t : Bool) → eqb l n ≡ t → cond t (ltb i k) (ltb l n) ≡ true → X
      go true q e = g (eqb-true l n q) (ltb-true i k e)
      go false q e = f (ltb-true l n e)

module _ (i l k n : ℕ) where
  after_longer : l < n → is_after (at i l) k n ≡ true
  unfolding is_after
  after_longer h = rw (ne_eqb l n (λ e. omega arith)) (lt-ltb l n h)

  after_later : l ≡ n → i < k → is_after (at i l) k n ≡ true
  unfolding is_after
  after_later e h = rw (eq-eqb l n e) (lt-ltb i k h)

strict : (a b : ℕ) → a ≤ b → (a ≡ b → ⊥) → a < b
strict a b h d = go (ltb a b) refl
  where
    go : (t : Bool) → ltb a b ≡ t → a < b
    go true e = ltb-true a b e
    go false e = absurd (d (omega (arith, ltb-false a b e)))

-- what comes after a route that comes after the last pick comes after the last pick
after_after : (last : Option Pick) (k n j m : ℕ) → is_after last k n ≡ true → is_after (at k n) j m ≡ true → is_after last j m ≡ true
unfolding is_after
after_after None k n j m e f = refl
after_after (Some p) k n j m e f =
    let i = p.route in
    let l = p.length in
    after_cases i l k n e
    (λ h. after_cases k n j m f (λ g. after_longer i l j m (omega arith)) (λ q g. after_longer i l j m (omega arith)))
    (λ p h. after_cases k n j m f (λ g. after_longer i l j m (omega arith)) (λ q g. after_later i l j m (omega arith) (omega arith)))

-- ---- the next pick is the first smallest

module _ (ls : List ℕ) (last : Option Pick) where
  abbrev passes : ℕ → Bool
  passes k = is_after last k (get_or ls k 0)

  -- route k is the first smallest of the first m that come after the last pick
  pub record First (m k : ℕ) : Type 0 where
    pub inside : k < m
    pub after : passes k ≡ true
    pub least : (j : ℕ) → j < m → passes j ≡ true → get_or ls k 0 ≤ get_or ls j 0
    pub first : (j : ℕ) → j < m → passes j ≡ true → get_or ls j 0 ≡ get_or ls k 0 → k ≤ j

  abbrev Found : ℕ → Option Pick → Type 0
  Found m None = (j : ℕ) → j < m → passes j ≡ false
  Found m (Some p) = (p.length ≡ get_or ls p.route 0) × First m p.route

  passed_over : (m : ℕ) (best : Option Pick) → passes m ≡ false → Found m best → Found (suc m) best
  passed_over m None e f = λ j h. up_to m j h (λ g. f j g) (λ q. rw q e)
  passed_over m (Some p) e (q, f) = (
    q,
    record {
      inside = omega (arith, f.inside);
      after = f.after;
      least = λ j h t. up_to m j h (λ g. f.least j g t) (λ g. absurd (true≢false (sym t ∙ rw g e)));
      first = λ j h t s. up_to m j h (λ g. f.first j g t s) (λ g. absurd (true≢false (sym t ∙ rw g e)));
    },
  )

  looked_at : (m : ℕ) (best : Option Pick) → passes m ≡ true → Found m best → Found (suc m) (shorter best m (get_or ls m 0))
  unfolding shorter
  looked_at m None e f = (
    refl,
    record {
      inside = omega arith;
      after = e;
      least = λ j h t. up_to m j h (λ g. absurd (true≢false (sym t ∙ f j g))) (λ p. rw p (le_refl (get_or ls m 0)));
      first = λ j h t s. up_to m j h (λ g. absurd (true≢false (sym t ∙ f j g))) (λ p. omega arith);
    },
  )
  looked_at m (Some p) e (q, f) = go (ltb (get_or ls m 0) p.length) refl
    where
      go : (t : Bool) → ltb (get_or ls m 0) p.length ≡ t → Found (suc m) (cond t (at m (get_or ls m 0)) (Some p))
      go true h =
          let less = ltb-true (get_or ls m 0) p.length h in (
            refl,
            record {
              inside = omega arith;
              after = e;
              least = λ j h t. up_to m j h (λ g. omega (arith, f.least j g t)) (λ r. rw r (le_refl (get_or ls m 0)));
              first = λ j h t s. up_to m j h (λ g. absurd (omega (arith, f.least j g t))) (λ r. omega arith);
            },
          )
      go false h =
          let more = ltb-false (get_or ls m 0) p.length h in (
            q,
            record {
              inside = omega (arith, f.inside);
              after = f.after;
              least = λ j h t. up_to m j h (λ g. f.least j g t) (λ r. rw r (omega arith));
              first = λ j h t s. up_to m j h (λ g. f.first j g t s) (λ r. omega (arith, f.inside));
            },
          )

  found : Found (length ls) (next_pick ls last)
  unfolding next_pick considered
  found = loop_rule (λ m best. Found m best) (length ls) (λ k best. considered last best k (get_or ls k 0)) (λ m best h f. turn m best f (passes m) refl) (λ j h. absurd (not-suc-le-zero h))
    where
      turn : (m : ℕ) (best : Option Pick) → Found m best → (t : Bool) → passes m ≡ t → Found (suc m) (cond t (shorter best m (get_or ls m 0)) best)
      turn m best f true e = looked_at m best e f
      turn m best f false e = passed_over m best e f

  -- where there is a next pick, it is a route with its length
  pub next_pick_inside : (k n : ℕ) → next_pick ls last ≡ at k n → (k < length ls) × (n ≡ get_or ls k 0)
  next_pick_inside k n e =
      let f = subst (λ (p : Option Pick). Found (length ls) p) e found in
      (f.1.inside, f.0)

  -- the routes after the last pick, by index
  abbrev left : List ℕ
  left = keep passes (range 0 (length ls))

  each : {P : ℕ → Type 0} (k : ℕ) → k < length ls → passes k ≡ true → All P left → P k
  each {P} k h t a =
      let n = length_range 0 (length ls) in
      let at : get_or (range 0 (length ls)) k 0 ≡ k = get_range 0 (length ls) k h ∙ omega arith in
      (rw at at (all_get k 0 (all_kept passes (range 0 (length ls)) a) (omega arith))) t

  module _ (k : ℕ) (f : First (length ls) k) where
    -- once k is picked, what comes after it is what came after the last pick but k
    same : (j : ℕ) → j < length ls → (passes j && not (eqb j k)) ≡ is_after (at k (get_or ls k 0)) j (get_or ls j 0)
    unfolding is_after
    same j h = go (passes j) refl
      where
        n : ℕ
        n = get_or ls k 0

        m : ℕ
        m = get_or ls j 0

        equal : (t : Bool) → eqb j k ≡ t → k ≤ j → not t ≡ ltb k j
        equal true e g = sym (le-ltb k j (omega (arith, eqb-true j k e)))
        equal false e g = sym (lt-ltb k j (strict k j g (λ q. eqb-false j k e (sym q))))

        passing : (t : Bool) → eqb n m ≡ t → passes j ≡ true → not (eqb j k) ≡ cond t (ltb k j) (ltb n m)
        passing true e p = equal (eqb j k) refl (f.first j h p (sym (eqb-true n m e)))
        passing false e p =
            let more : n < m = strict n m (f.least j h p) (eqb-false n m e) in
            rw (lt-ltb n m more, ne_eqb j k (λ q. eqb-false n m e (ap (λ (x : ℕ). get_or ls x 0) (sym q))))

        none : (t : Bool) → is_after (at k n) j m ≡ t → passes j ≡ false → false ≡ t
        none true e p = absurd (true≢false (sym (after_after last k n j m f.after e) ∙ p))
        none false e p = refl

        go : (t : Bool) → passes j ≡ t → (t && not (eqb j k)) ≡ is_after (at k n) j m
        go true p = passing (eqb n m) refl p
        go false p = none (is_after (at k n) j m) refl p

    some_left : 0 < length left
    some_left = each {P = λ _. 0 < length left} k f.inside f.after (all_of left 0 (λ i h. omega arith))

    first_left : ℕ
    first_left = least_at (λ i j. ltb (get_or ls i 0) (get_or ls j 0)) 0 left

    is_least : Least (λ (x : ℕ). get_or ls x 0) 0 left (length left) first_left
    unfolding first_left
    is_least = least_key (λ (x : ℕ). get_or ls x 0) 0 left some_left

    -- no route that is left comes before the head of the list
    before_others : (j : ℕ) → j < length left
        → (get_or ls (get_or left first_left 0) 0 ≤ get_or ls (get_or left j 0) 0) × (get_or ls (get_or left j 0) 0 ≡ get_or ls (get_or left first_left 0) 0 → get_or left first_left 0 ≤ get_or left j 0)
    before_others j h = (is_least.least j h, λ e. go (ltb j first_left) refl (ltb first_left j) refl e)
      where
        go : (t : Bool) → ltb j first_left ≡ t → (u : Bool) → ltb first_left j ≡ u → get_or ls (get_or left j 0) 0 ≡ get_or ls (get_or left first_left 0) 0
            → get_or left first_left 0 ≤ get_or left j 0
        go true p u q e = absurd (omega (arith, is_least.first j (ltb-true j first_left p)))
        go false p true q e = omega (arith, rising_order left first_left j (rising_range passes 0 (length ls)) (ltb-true first_left j q) h)
        go false p false q e =
            let same_place : first_left ≡ j = omega (arith, ltb-false j first_left p, ltb-false first_left j q) in
            rw same_place (le_refl (get_or left j 0))

    head : get_or left first_left 0 ≡ k
    head =
        let h = get_or left first_left 0 in
        let inside : h < length ls = all_get first_left 0 (all_keep passes (all_range 0 (length ls) (length ls) (omega arith))) is_least.inside in
        let after : passes h ≡ true = all_get first_left 0 (keep_passes passes (range 0 (length ls))) is_least.inside in
        let o = each {P = λ j. (get_or ls h 0 ≤ get_or ls j 0) × (get_or ls j 0 ≡ get_or ls h 0 → h ≤ j)} k f.inside f.after (all_of left 0 before_others) in
        let e : get_or ls k 0 ≡ get_or ls h 0 = omega (arith, o.0, f.least h inside after) in
        omega (arith, o.1 e, f.first h inside after (sym e))

    -- without it, what is left are the routes after it
    rest : erase first_left left ≡ keep (λ j. is_after (at k (get_or ls k 0)) j (get_or ls j 0)) (range 0 (length ls))
    rest =
        rising_erase left first_left (rising_range passes 0 (length ls)) is_least.inside
        ∙ rw head (keep_both passes (λ j. not (eqb j k)) (range 0 (length ls)))
        ∙ keep_same (λ j. passes j && not (eqb j k)) (λ j. is_after (at k (get_or ls k 0)) j (get_or ls j 0)) (all_map (λ j h. same j h) (all_range 0 (length ls) (length ls) (omega arith)))

    picked : following ls last ≡ k ∷ following ls (at k (get_or ls k 0))
    unfolding following first_left
    picked =
        sort_by_cons (λ i j. ltb (get_or ls i 0) (get_or ls j 0)) 0 left some_left
        ∙ rw (head, rest)

  -- ---- what follows the last pick

  pub following_at : (k n : ℕ) → next_pick ls last ≡ at k n → following ls last ≡ k ∷ following ls (at k n)
  following_at k n e =
      let f = subst (λ (p : Option Pick). Found (length ls) p) e found in
      rw f.0 (picked k f.1)

  pub following_nothing : next_pick ls last ≡ None → following ls last ≡ []
  unfolding following sort_by smallest
  following_nothing e =
      let f = subst (λ (p : Option Pick). Found (length ls) p) e found in
      rw (keep_none passes (all_map (λ j h. f j h) (all_range 0 (length ls) (length ls) (omega arith))))

pub following_all : (ls : List ℕ) → following ls None ≡ order ls
unfolding following is_after
following_all ls = ap (λ (l : List ℕ). by_length ls l) (keep_all (λ k. true) (all_map (λ k h. refl) (all_range 0 (length ls) (length ls) (omega arith))))

-- ---- the picks one after the other are the order

repeated_following : (m : ℕ) (ls : List ℕ) (last : Option Pick) → length (following ls last) ≤ m → repeated m ls last ≡ following ls last
unfolding repeated picked_then
repeated_following zero ls last h = empty (following ls last) h
  where
    empty : (xs : List ℕ) → length xs ≤ zero → [] ≡ xs
    empty [] h = refl
    empty (x ∷ xs) h = absurd (not-suc-le-zero h)
repeated_following (suc m) ls last h = go (next_pick ls last) refl (λ p g. repeated_following m ls p g)
  where
    go : (p : Option Pick) → next_pick ls last ≡ p → ((q : Option Pick) → length (following ls q) ≤ m → repeated m ls q ≡ following ls q)
        → picked_then (λ q. repeated m ls q) p ≡ following ls last
    go None e rest = sym (following_nothing ls last e)
    go (Some p) e rest =
        let f = following_at ls last p.route p.length e in
        rw (rest (Some p) (omega (arith, ap length f))) (sym f)

pub repeated_picks : (ls : List ℕ) → repeated (length ls) ls None ≡ order ls
repeated_picks ls =
    let n : length (order ls) ≡ length ls = length_sort_by (λ i j. ltb (get_or ls i 0) (get_or ls j 0)) 0 (range 0 (length ls)) ∙ length_range 0 (length ls) in
    repeated_following (length ls) ls None (omega (arith, ap length (following_all ls))) ∙ following_all ls

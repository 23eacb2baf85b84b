-- The loops of a search: a record for its rounds and one for the attempts of a round, and what begins, keeps and ends each of them, for any
-- attempt that reduces plans. Assumes nothing.
use Prim.Native.Nat.{ℕ, zero, suc, ◌+◌, ◌-◌, ◌*◌, ◌≤◌, ◌<◌}
use mathlib.Core.Path.{◌≡◌, refl, sym, ap, subst, ◌∙◌}
use mathlib.Core.List.{List, [], ◌∷◌, ◌++◌, append_assoc}
use Rattle.std.proofs.Common.{Option, None, Some}
use native.Mathlib.Nat.{not-suc-le-zero, suc-mul, mul-add, mul_comm, mul-le-mul_left}
use native.Mathlib.Omega.{arith}
use lib.ListN.{length, take, drop, replicate, length-append, take-append-drop}
use lib.Seq.{drop_at, length-take-le}
use Rattle.route_order.specs.laws.Keeps.{keep}
use Rattle.route_order.specs.laws.Sorts.{range, smallest, sort_by, length_sort_by, length_range}
use Rattle.route_order.specs.laws.Counts.{count as count_of}
use Rattle.route_order.specs.declared.Pick.{Pick}
use Rattle.route_order.specs.plan.Plan.{Plan, Lent, split, flat, lengths_of, total, padded, drop_zero, drop_empty}
use Rattle.route_order.specs.Order.{order, following}
use Rattle.route_order.specs.Following.{following_all}
use Rattle.route_order.specs.plan.Slices.{length_split, lengths_split, flat_split_all}
use Rattle.route_order.specs.plan.Dropped.{total_padded, total_drop_zero, drop_zero_padded, split_padded, drop_empty_padded}
use Rattle.local_search.specs.declared.rounds.Counts.{Counts}
use Rattle.local_search.specs.declared.rounds.Next.{Next}
use Rattle.local_search.specs.declared.rounds.Next.TheVariants.{End, Kept, Accepted}
use Rattle.local_search.specs.Planned.{Planned, planned_as}
use Rattle.local_search.specs.Rounds.{Tried, Result, Attempt, try_each, try_all, or_end, reduce}
use Rattle.local_search.specs.Reduced.{Reduces, reduces_fewer, triangle, triangle_more, triangle_mono}
use Rattle.local_search.specs.Search.{Refused, Taken, NextLeaves, Answers, tried_next, but_last, uncounted}
use Rattle.local_search.proofs.RoundLaws.{rounds_of, ended_with, rounds_are}
use Rattle.local_search.proofs.NextLaws.{fewer_routes, in_use, begun_long, count_within, begun_routes, begun_planned}

-- where there are no routes there are no picks
no_picks : (ls : List ℕ) (last : Option Pick) → length ls ≡ 0 → 0 < length (following ls last) → ⊥
unfolding following range keep sort_by smallest
no_picks [] last e h = not-suc-le-zero h
no_picks (l ∷ ls) last e h = absurd (omega (arith, e))

-- ---- the records

-- attempts of at most `limit` steps, in plans over so many places
module _ (attempt : Attempt) (limit places : ℕ) where
  -- before a round: the rounds that are left are those of the call
  pub record Rounding (ls₀ s₀ ls s : List ℕ) (n : Counts) : Type 0 where
    pub long : length ls ≡ length ls₀
    pub stops_long : length s ≡ length s₀
    pub whole : total ls ≡ length s
    pub planned : Planned places (split ls s)
    pub same : reduce attempt (split ls₀ s₀) ≡ rounds_of attempt (drop_empty (split ls s)) n
    pub drawn : n.draws ≤ 500 * n.steps
    pub stepped : n.steps + limit * triangle (length (drop_zero ls)) ≤ limit * triangle 256

  -- the slices as a round finds them: the first lengths in use, 0 behind them
  pub record Begun (ls s : List ℕ) (n : Counts) (count : ℕ) : Type 0 where
    pub count_in : count ≤ length ls
    pub long : length ls ≤ 256
    pub zeros : drop count ls ≡ replicate (length ls - count) 0
    pub whole : total (take count ls) ≡ length s
    pub few : length s ≤ 255
    pub planned : Planned places (split (take count ls) s)
    pub stepped : n.steps + limit * triangle count ≤ limit * triangle 256

  -- in a round: nothing has changed, and the attempts that are left are those of the round
  pub record Trying (ls₁ s₁ : List ℕ) (n₁ : Counts) (count : ℕ) (ls s : List ℕ) (n : Counts) (last : Option Pick) : Type 0 where
    pub begun : Begun ls₁ s₁ n₁ count
    pub same_lengths : ls ≡ ls₁
    pub same_stops : s ≡ s₁
    pub same : try_all attempt (split (take count ls₁) s₁) n₁ ≡ try_each attempt (split (take count ls₁) s₁) (following (take count ls₁) last) n
    pub drawn : n.draws ≤ 500 * n.steps
    pub stepped : n.steps + limit * length (following (take count ls₁) last) ≤ n₁.steps + limit * count

  -- ---- the start of the call

  pub rounding_start : (ls s : List ℕ) → total ls ≡ length s → length ls ≤ 256 → Planned places (split ls s) → Rounding ls s ls s uncounted
  unfolding reduce
  rounding_start ls s whole few planned = record {
    long = refl;
    stops_long = refl;
    whole = whole;
    planned = planned;
    same = refl;
    drawn = omega arith;
    stepped = omega (arith, mul-le-mul_left limit (triangle_mono (length (drop_zero ls)) 256 (omega (arith, fewer_routes ls, few))));
  }

  module _ {ls₀ s₀ ls s : List ℕ} {n : Counts} (g : Rounding ls₀ s₀ ls s n) (few : length s₀ ≤ 255) where
    pub round_lent : Lent ls s
    round_lent = record { inside = omega (arith, g.whole); few = omega (arith, g.stops_long) }

    -- ---- the start of a round

    module _ (ls₁ : List ℕ) (k : ℕ) (e : ls₁ ≡ padded (length ls) (drop_zero ls)) (c : k ≡ length (drop_zero ls)) where
      pub round_same : reduce attempt (split ls₀ s₀) ≡ rounds_of attempt (split (take k ls₁) s) n
      round_same = g.same ∙ ap (λ (q : Plan). rounds_of attempt q n) (sym (begun_routes ls ls₁ k e c s round_lent))

      begins : length ls₀ ≤ 256 → Begun ls₁ s n k
      unfolding padded
      begins m = record {
        count_in = count_within ls ls₁ k e c;
        long = omega (arith, begun_long ls ls₁ k e c, g.long);
        zeros =
            let z : length ls - length (drop_zero ls) ≡ length ls₁ - k = omega (arith, begun_long ls ls₁ k e c, c) in
            ap (drop k) e ∙ drop_at (drop_zero ls) (replicate (length ls - length (drop_zero ls)) 0) k (sym c) ∙ ap (λ (i : ℕ). replicate i 0) z;
        whole = ap total (in_use ls ls₁ k e c) ∙ total_drop_zero ls ∙ g.whole;
        few = omega (arith, g.stops_long);
        planned = begun_planned ls ls₁ k e c s round_lent places g.planned;
        stepped = rw c g.stepped;
      }

      pub trying_start : length ls₀ ≤ 256 → Trying ls₁ s n k ls₁ s n None
      trying_start m =
          let b = begins m in
          let front = take k ls₁ in
          let own : lengths_of (split front s) ≡ front = lengths_split front s (omega (arith, b.whole)) in
          let all : following front None ≡ order front = following_all front in
          let number : length (order front) ≡ length front = length_sort_by _ 0 _ ∙ length_range 0 (length front) in
          let there : length front ≡ k = length-take-le k ls₁ b.count_in in
          let less : limit * length (following front None) ≡ limit * k = ap (λ (i : ℕ). limit * i) (ap length all ∙ number ∙ there) in
          record {
            begun = b;
            same_lengths = refl;
            same_stops = refl;
            same = ap (λ (l : List ℕ). try_each attempt (split front s) l n) (ap order own ∙ sym all);
            drawn = g.drawn;
            stepped = omega (arith, less);
          }

  -- ---- in a round

  module _ {ls₁ s₁ : List ℕ} {n₁ : Counts} {count : ℕ} {ls s : List ℕ} {n : Counts} {last : Option Pick} (g : Trying ls₁ s₁ n₁ count ls s n last) where
    front : take count ls ≡ take count ls₁
    front = ap (take count) g.same_lengths

    pub front_length : length (take count ls) ≡ count
    front_length = length-take-le count ls (rw g.same_lengths g.begun.count_in)

    pub front_in : count ≤ length ls
    front_in = rw g.same_lengths g.begun.count_in

    pub trying_routes : split (take count ls) s ≡ split (take count ls₁) s₁
    trying_routes = rw (front, g.same_stops)

    pub trying_planned : Planned places (split (take count ls) s)
    trying_planned = rw trying_routes g.begun.planned

    pub trying_whole : total (take count ls) ≡ length s
    trying_whole = rw (front, g.same_stops) g.begun.whole

    pub trying_few : length s ≤ 255
    trying_few = rw g.same_stops g.begun.few

    pub trying_routes_few : length (take count ls) ≤ 256
    trying_routes_few = omega (arith, front_length, g.begun.count_in, g.begun.long)

    pub trying_steps : n.steps ≤ limit * triangle 256
    trying_steps =
        let t = mul-add limit count (triangle (count - 1)) in
        let u : limit * triangle count ≡ limit * (count + triangle (count - 1)) = ap (λ (k : ℕ). limit * k) (triangle_more count) in
        omega (arith, g.stepped, g.begun.stepped, t, u)

    -- the lengths that are lent have come back as they were
    back : (Y : List ℕ) → Y ≡ take count ls → Y ++ drop count ls ≡ ls
    back Y e = ap (λ (l : List ℕ). l ++ drop count ls) e ∙ take-append-drop count ls

    pub back_long : (Y : List ℕ) → length Y ≡ length (take count ls) → length (Y ++ drop count ls) ≡ length ls
    back_long Y e = omega (arith, length-append Y (drop count ls), ap length (take-append-drop count ls), length-append (take count ls) (drop count ls))

    -- the plan is kept
    module _ (Y S : List ℕ) (pick : Pick) (m : Counts)
        (q : try_each attempt (split (take count ls) s) (following (take count ls) (Some pick)) m
        ≡ try_each attempt (split (take count ls) s) (following (take count ls) last) n)
        (f : Refused limit (take count ls) s last n pick m Y S) where
      trying_again : Trying ls₁ s₁ n₁ count (Y ++ drop count ls) S m (Some pick)
      trying_again =
          let less : length (following (take count ls₁) last) ≡ suc (length (following (take count ls₁) (Some pick))) = rw front at f.pick_less in
          let t : limit * length (following (take count ls₁) last) ≡ limit + limit * length (following (take count ls₁) (Some pick)) =
          ap (λ (k : ℕ). limit * k) less ∙ mul_comm limit (suc (length (following (take count ls₁) (Some pick))))
          ∙ suc-mul (length (following (take count ls₁) (Some pick))) limit ∙ omega (arith, mul_comm limit (length (following (take count ls₁) (Some pick)))) in
          record {
            begun = g.begun;
            same_lengths = back Y f.same_lengths ∙ g.same_lengths;
            same_stops = f.same_stops ∙ g.same_stops;
            same = g.same ∙ sym (rw (front, g.same_stops) at q);
            drawn = f.counted.draws_in;
            stepped = omega (arith, f.counted.steps_in, g.stepped, t);
          }

    -- x is what the rounds come to
    module _ (a : Reduces attempt limit) (x : Result) (r : x ≡ rounds_of attempt (split (take count ls₁) s₁) n₁) where
      left : x ≡ ended_with attempt (split (take count ls₁) s₁) (try_each attempt (split (take count ls₁) s₁) (following (take count ls₁) last) n)
      left =
          r ∙ rounds_are attempt (reduces_fewer attempt limit a) (split (take count ls₁) s₁) n₁
          ∙ ap (λ (t : Tried). ended_with attempt (split (take count ls₁) s₁) t) g.same

      -- what the round comes to, by the next attempt's answer t
      comes_to : (t : Tried) → t ≡ try_each attempt (split (take count ls) s) (following (take count ls) last) n → x ≡ ended_with attempt (split (take count ls₁) s₁) t
      comes_to t q = left ∙ ap (λ (y : Tried). ended_with attempt (split (take count ls₁) s₁) y) (sym (rw (front, g.same_stops) at q))

      -- no pick is left
      trying_answers : (width : ℕ) (Y S : List ℕ) → width ≡ length ls₁ → Y ≡ take count ls → S ≡ s
          → ◌≡◌ {A = Tried} (record { plan = None; counts = n }) (try_each attempt (split (take count ls) s) (following (take count ls) last) n)
          → Answers x width count n (Y ++ drop count ls) S
      unfolding or_end padded
      trying_answers width Y S z y e q =
          let end : x ≡ record { plan = split (take count ls₁) s₁; counts = n } = comes_to (record { plan = None; counts = n }) q in
          let b = g.begun in
          let there : length (take count ls₁) ≡ count = length-take-le count ls₁ b.count_in in
          let own : lengths_of (split (take count ls₁) s₁) ≡ take count ls₁ = lengths_split (take count ls₁) s₁ (omega (arith, b.whole)) in
          let free : width - length (take count ls₁) ≡ length ls₁ - count = omega (arith, there) in
          let full : padded width (take count ls₁) ≡ ls₁ =
          ap (λ (k : ℕ). take count ls₁ ++ replicate k 0) free ∙ ap (λ (l : List ℕ). take count ls₁ ++ l) (sym b.zeros) ∙ take-append-drop count ls₁ in
          let lengths : Y ++ drop count ls ≡ padded width (lengths_of (split (take count ls₁) s₁)) = back Y y ∙ g.same_lengths ∙ sym (ap (padded width) own ∙ full) in
          let stops : S ≡ flat (split (take count ls₁) s₁) = e ∙ g.same_stops ∙ sym (flat_split_all (take count ls₁) s₁ b.whole) in
          rw end (record {
            routes = sym (length_split (take count ls₁) s₁ ∙ there);
            counted = refl;
            slices = ap (λ (l : List ℕ). record { lengths = l; stops = S }) lengths ∙ ap (λ (l : List ℕ). record { lengths = padded width (lengths_of (split (take count ls₁) s₁)); stops = l }) stops;
          })

    -- the plan without a route is accepted
    module _ (Y S : List ℕ) (m : Counts) (long : length Y ≡ length (take count ls)) (f : Taken limit places (take count ls) last n m Y S) where
      some_route : 0 < count
      some_route =
          positive count refl
        where
          positive : (k : ℕ) → count ≡ k → 0 < count
          positive zero e = absurd (no_picks (take count ls) last (omega (arith, front_length)) f.pick_left)
          positive (suc k) e = omega arith

      lengths_are : Y ++ drop count ls ≡ padded (length ls) (but_last Y)
      unfolding padded
      lengths_are =
          let z : drop count ls ≡ replicate (length ls - count) 0 = rw g.same_lengths g.begun.zeros in
          let k : length (but_last Y) ≡ length Y - 1 = length-take-le (length Y - 1) Y (omega arith) in
          let i : suc (length ls - count) ≡ length ls - length (but_last Y) = omega (arith, k, long, front_length, front_in, some_route) in
          ap (λ (l : List ℕ). l ++ drop count ls) f.ends.zero_last
          ∙ append_assoc (but_last Y) (0 ∷ []) (drop count ls)
          ∙ ap (λ (l : List ℕ). but_last Y ++ (0 ∷ l)) z
          ∙ ap (λ (j : ℕ). but_last Y ++ replicate j 0) i

      fewer_in_use : length (drop_zero (Y ++ drop count ls)) < count
      fewer_in_use =
          let e : drop_zero (Y ++ drop count ls) ≡ drop_zero (but_last Y) = ap drop_zero lengths_are ∙ drop_zero_padded (length ls) (but_last Y) in
          let k : length (but_last Y) ≡ length Y - 1 = length-take-le (length Y - 1) Y (omega arith) in
          omega (arith, ap length e, fewer_routes (but_last Y), k, long, front_length, some_route)

      round_again : Reduces attempt limit → (ls₀ s₀ : List ℕ) → length ls₁ ≡ length ls₀ → length s₁ ≡ length s₀ → length S ≡ length s
          → reduce attempt (split ls₀ s₀) ≡ rounds_of attempt (split (take count ls₁) s₁) n₁
          → ◌≡◌ {A = Tried} (record { plan = Some (split (but_last Y) S); counts = m }) (try_each attempt (split (take count ls) s) (following (take count ls) last) n)
          → Rounding ls₀ s₀ (Y ++ drop count ls) S m
      unfolding or_end
      round_again a ls₀ s₀ i j k r q =
          let plan = split (but_last Y) S in
          let split_is : split (Y ++ drop count ls) S ≡ plan ++ replicate (length ls - length (but_last Y)) [] =
          ap (λ (l : List ℕ). split l S) lengths_are ∙ split_padded (length ls) (but_last Y) S in
          let dropped : drop_empty (split (Y ++ drop count ls) S) ≡ drop_empty plan = ap drop_empty split_is ∙ drop_empty_padded plan (length ls - length (but_last Y)) in
          let sum : total (Y ++ drop count ls) ≡ length S = ap total lengths_are ∙ total_padded (length ls) (but_last Y) ∙ f.whole in
          let flat-is : flat (split (Y ++ drop count ls) S) ≡ flat plan = flat_split_all (Y ++ drop count ls) S sum ∙ sym (flat_split_all (but_last Y) S f.whole) in
          let t : limit * triangle count ≡ limit * count + limit * triangle (count - 1) =
          ap (λ (k : ℕ). limit * k) (triangle_more count) ∙ mul-add limit count (triangle (count - 1)) in
          let u = mul-le-mul_left limit (triangle_mono (length (drop_zero (Y ++ drop count ls))) (count - 1) (omega (arith, fewer_in_use))) in
          let v : limit * 1 ≤ limit * length (following (take count ls₁) last) = mul-le-mul_left limit (rw front at f.pick_left) in
          record {
            long = back_long Y long ∙ ap length g.same_lengths ∙ i;
            stops_long = omega (arith, ap length g.same_stops);
            whole = sum;
            planned = planned_as places plan (split (Y ++ drop count ls) S) (omega (arith, ap length flat-is)) (λ z. ap (count_of z) flat-is) f.planned;
            same = comes_to a (reduce attempt (split ls₀ s₀)) r (record { plan = Some plan; counts = m }) q ∙ ap (λ (z : Plan). rounds_of attempt z m) (sym dropped);
            drawn = f.counted.draws_in;
            stepped = omega (arith, f.counted.steps_in, g.stepped, g.begun.stepped, t, u, v);
          }

    -- ---- by what the next attempt answers

    module _ (z : Next) (Y S : List ℕ)
        (e : tried_next attempt (split (take count ls) s) (take count ls) n z (split (but_last Y) S) ≡ try_each attempt (split (take count ls) s) (following (take count ls) last) n)
        (h : NextLeaves limit places (take count ls) s last n z Y S) where
      told : (y : Next) → z ≡ y → tried_next attempt (split (take count ls) s) (take count ls) n y (split (but_last Y) S) ≡ try_each attempt (split (take count ls) s) (following (take count ls) last) n
      told y f = ap (λ (y : Next). tried_next attempt (split (take count ls) s) (take count ls) n y (split (but_last Y) S)) (sym f) ∙ e

      leaves : (y : Next) → z ≡ y → NextLeaves limit places (take count ls) s last n y Y S
      leaves y f = subst (λ (y : Next). NextLeaves limit places (take count ls) s last n y Y S) f h

      pub at_end : Reduces attempt limit → (x : Result) (width : ℕ) → x ≡ rounds_of attempt (split (take count ls₁) s₁) n₁ → width ≡ length ls₁ → z ≡ End
          → Answers x width count n (Y ++ drop count ls) S
      at_end a x width r i f =
          let same = leaves End f in
          trying_answers a x r width Y S i same.0 same.1 (told End f)

      module _ (pick : Pick) (m : Counts) (f : z ≡ Kept pick m) where
        pub refused : Refused limit (take count ls) s last n pick m Y S
        refused = leaves (Kept pick m) f

        pub after_kept_less : length (following (take count (Y ++ drop count ls)) (Some pick)) < length (following (take count ls) last)
        after_kept_less = rw (back Y refused.same_lengths) (omega (arith, refused.pick_less))

        pub after_kept : Trying ls₁ s₁ n₁ count (Y ++ drop count ls) S m (Some pick)
        after_kept = trying_again Y S pick m (told (Kept pick m) f) refused

      module _ (m : Counts) (long : length Y ≡ length (take count ls)) (f : z ≡ Accepted m) where
        pub taken : Taken limit places (take count ls) last n m Y S
        taken = leaves (Accepted m) f

        pub after_accepted_less : (top : List ℕ) → count ≡ length (drop_zero top) → length (drop_zero (Y ++ drop count ls)) < length (drop_zero top)
        after_accepted_less top i = omega (arith, fewer_in_use Y S m long taken)

        pub after_accepted : Reduces attempt limit → (ls₀ s₀ : List ℕ) → length ls₁ ≡ length ls₀ → length s₁ ≡ length s₀ → length S ≡ length s
            → reduce attempt (split ls₀ s₀) ≡ rounds_of attempt (split (take count ls₁) s₁) n₁
            → Rounding ls₀ s₀ (Y ++ drop count ls) S m
        after_accepted a ls₀ s₀ i j k r = round_again Y S m long taken a ls₀ s₀ i j k r (told (Accepted m) f)

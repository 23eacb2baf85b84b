-- What an accepted attempt keeps, the rounds keep, whatever the attempt: the places, the number of routes, the kind of each route; and the
-- steps of n routes are those of n (n + 1) / 2 attempts. The idea of the last: a round over n routes makes at most n attempts, and the next
-- round has a route fewer. Assumes nothing.
use Rattle.std.specs.Prelude.{ℕ, zero, suc, ◌+◌, ◌-◌, ◌*◌, ◌≤◌, ◌<◌, ◌≡◌, refl, List, [], ◌∷◌, length}
use Rattle.std.proofs.Common.{◌∙◌, subst, arith, suc-mul, mul-add, mul_comm, mul-le-mul_right}
use Rattle.std.specs.Prelude.{Option, None, Some}
use Rattle.std.proofs.Math.Nat.{le_refl}
use Rattle.std.proofs.lemmas.List.{length-map}
use Rattle.route_order.specs.laws.All.{All, all_cons, all_head}
use Rattle.route_order.specs.laws.Keeps.{length_keep, all_keep}
use Rattle.route_order.specs.laws.Sorts.{range, smallest, sort_by, all_range, all_sort_by, length_range, length_sort_by}
use Rattle.route_order.specs.plan.Plan.{Plan, lengths_of, non_empty, drop_empty, occurs}
use Rattle.route_order.specs.Order.{order}
use Rattle.route_order.specs.plan.Dropped.{occurs_drop_empty}
use Rattle.local_search.specs.Options.{Each, each_found, each_map}
use Rattle.local_search.specs.declared.rounds.Counts.{Counts}
use Rattle.local_search.specs.Rounds.{Tried, Result, Attempt, try_each, try_all, or_end, rounds, reduce}
use Rattle.local_search.specs.RoundRules.{try_rule, rounds_rule}

-- what an accepted attempt makes of a plan: a route fewer, the same places, each route of the kind G
pub record Better (G : List ℕ → Type 0) (routes x : Plan) : Type 0 where
  pub fewer : suc (length x) ≡ length routes
  pub places : (c : ℕ) → occurs c x ≡ occurs c routes
  pub kinds : All G x

-- at most b steps, and 500 draws for each
pub record Bounded (b : ℕ) (n : Counts) : Type 0 where
  pub steps_in : n.steps ≤ b
  pub draws_in : n.draws ≤ 500 * n.steps

-- what is asked of an attempt of at most m steps: where it is accepted the plan is better, and its counts are bounded
pub record Reduces (attempt : Attempt) (m : ℕ) : Type 0 where
  pub better : (routes : Plan) (r : ℕ) (n : Counts) → r < length routes → Each (Better (λ q. Unit) routes) (attempt routes r n).plan
  pub bounded : (b : ℕ) (routes : Plan) (r : ℕ) (n : Counts) → m + n.steps ≤ b → n.draws ≤ 500 * n.steps → Bounded b (attempt routes r n).counts

pub reduces_fewer : (attempt : Attempt) (m : ℕ) → Reduces attempt m → (routes : Plan) (r : ℕ) (n : Counts) → r < length routes
    → Each (λ x. length x < length routes) (attempt routes r n).plan
reduces_fewer attempt m h routes r n r-in =
    each_map (Better (λ q. Unit) routes) (λ x. length x < length routes) (attempt routes r n).plan (λ x b. omega (arith, b.fewer)) (h.better routes r n r-in)

-- 1 + 2 + .. + n
unfoldable pub triangle : ℕ → ℕ
triangle zero = 0
triangle (suc n) = suc n + triangle n

-- "n(n + 1) / 2"
pub triangle_is : (n : ℕ) → 2 * triangle n ≡ n * (n + 1)
unfolding triangle
triangle_is zero = refl
triangle_is (suc n) = omega (arith, triangle_is n, mul-add n n 2, suc-mul n (n + 2), mul-add n n 1)

pub triangle_more : (n : ℕ) → triangle n ≡ n + triangle (n - 1)
unfolding triangle
triangle_more zero = refl
triangle_more (suc n) =
    let e : suc n - 1 ≡ n = omega arith in
    rw e

pub triangle_mono : (m n : ℕ) → m ≤ n → triangle m ≤ triangle n
unfolding triangle
triangle_mono zero n h = omega arith
triangle_mono (suc m) zero h = absurd (omega arith)
triangle_mono (suc m) (suc n) h = omega (arith, triangle_mono m n (omega arith))

triangle_times : (m n : ℕ) → m * triangle (suc n) ≡ m * suc n + m * triangle n
unfolding triangle
triangle_times m n = mul-add m (suc n) (triangle n)

order_length : (routes : Plan) → length (order (lengths_of routes)) ≡ length routes
order_length routes = length_sort_by _ 0 _ ∙ length_range 0 (length (lengths_of routes)) ∙ length-map routes length

order_inside : (routes : Plan) → All (λ r. r < length routes) (order (lengths_of routes))
order_inside routes = all_sort_by _ 0 (all_range 0 (length (lengths_of routes)) (length routes) (omega (arith, length-map routes length)))

tail_of : {A : Type 0} {P : A → Type 0} {x : A} {xs : List A} → All P (x ∷ xs) → All P xs
tail_of (all_cons p a) = a

-- what each attempt at a route of the plan has, where it is accepted, the round has
pub round_has : (attempt : Attempt) (P : Plan → Type 0) (routes : Plan) → ((r : ℕ) (n : Counts) → r < length routes → Each P (attempt routes r n).plan)
    → (n : Counts) → Each P (try_all attempt routes n).plan
round_has attempt P routes each n =
    try_rule attempt (λ rs n. All (λ r. r < length routes) rs) (λ t. Each P t.plan) routes
    (λ n _. tt)
    (λ r rs n i _. tail_of i)
    (λ r rs n x i e. subst (Each P) e (each r n (all_head i)))
    (order (lengths_of routes)) n (order_inside routes)

-- Where each accepted attempt leaves fewer routes, as many rounds as routes are enough: one more changes nothing.
pub rounds_enough : (attempt : Attempt)
    → ((routes : Plan) (r : ℕ) (n : Counts) → r < length routes → Each (λ x. length x < length routes) (attempt routes r n).plan)
    → (left : ℕ) (routes : Plan) (n : Counts) → length routes ≤ left → rounds attempt (suc left) routes n ≡ rounds attempt left routes n
unfolding rounds or_end try_each range sort_by smallest
rounds_enough attempt fewer zero [] n h = refl
rounds_enough attempt fewer zero (r ∷ routes) n h = absurd (omega arith)
rounds_enough attempt fewer (suc left) routes n h =
    go t.plan refl (λ plan g. rounds_enough attempt fewer left plan t.counts g)
  where
    t : Tried
    t = try_all attempt routes n

    go : (o : Option Plan) → t.plan ≡ o → ((plan : Plan) → length plan ≤ left → rounds attempt (suc left) plan t.counts ≡ rounds attempt left plan t.counts)
        → or_end (λ plan m. rounds attempt (suc left) plan m) routes o t.counts ≡ or_end (λ plan m. rounds attempt left plan m) routes o t.counts
    go None e rest = refl
    go (Some x) e rest =
        let y = each_found (λ z. length z < length routes) t.plan e (round_has attempt (λ z. length z < length routes) routes (fewer routes) n) in
        rest (drop_empty x) (omega (arith, length_keep non_empty x))

-- m bounds the steps of one attempt, and G is what the routes given have and every route that an attempt makes
module _ (attempt : Attempt) (m : ℕ) (G : List ℕ → Type 0)
    (better : (routes : Plan) (r : ℕ) (n : Counts) → r < length routes → All G routes → Each (Better G routes) (attempt routes r n).plan)
    (bounded : (b : ℕ) (routes : Plan) (r : ℕ) (n : Counts) → m + n.steps ≤ b → n.draws ≤ 500 * n.steps → Bounded b (attempt routes r n).counts) where
  -- ---- the attempts of a round

  try_bounded : (b : ℕ) (routes : Plan) (rs : List ℕ) (n : Counts) → length rs * m + n.steps ≤ b → n.draws ≤ 500 * n.steps → Bounded b (try_each attempt routes rs n).counts
  try_bounded b routes rs n le d =
      try_rule attempt I O routes
      (λ n i. record { steps_in = omega (arith, i.0); draws_in = i.1 })
      (λ r rs n i _. let a = bounded (m + n.steps) routes r n (le_refl (m + n.steps)) i.1 in (omega (arith, suc-mul (length rs) m), a.draws_in))
      (λ r rs n x i _. bounded b routes r n (omega (arith, suc-mul (length rs) m)) i.1)
      rs n (le, d)
    where
      I : List ℕ → Counts → Type 0
      I rs n = (length rs * m + n.steps ≤ b) × (n.draws ≤ 500 * n.steps)

      O : Tried → Type 0
      O t = Bounded b t.counts

  try_better : (routes : Plan) (n : Counts) → All G routes → Each (Better G routes) (try_all attempt routes n).plan
  try_better routes n g = round_has attempt (Better G routes) routes (λ r n r-in. better routes r n r-in g) n

  -- ---- the rounds

  -- of a plan with `left` rounds to come, against the plan that was given
  record Going (given : Plan) (b left : ℕ) (routes : Plan) (n : Counts) : Type 0 where
    routes_in : length routes ≤ left
    no_more : length routes ≤ length given
    steps_left : m * triangle left + n.steps ≤ b
    draws_in : n.draws ≤ 500 * n.steps
    places : (c : ℕ) → occurs c routes ≡ occurs c given
    kinds : All G routes

  -- of the plan that the rounds end with
  pub record Ended (given : Plan) (b : ℕ) (x : Result) : Type 0 where
    pub no_more : length x.plan ≤ length given
    pub counts_in : Bounded b x.counts
    pub places : (c : ℕ) → occurs c x.plan ≡ occurs c given
    pub kinds : All G x.plan

  rounds_ended : (given : Plan) (b left : ℕ) (routes : Plan) (n : Counts) → Going given b left routes n → Ended given b (rounds attempt left routes n)
  rounds_ended given b =
      rounds_rule attempt (Going given b) (Ended given b)
      (λ left routes n i. record {
        no_more = i.no_more;
        counts_in = record { steps_in = omega (arith, i.steps_left); draws_in = i.draws_in };
        places = i.places;
        kinds = i.kinds;
      })
      (λ left routes n i. record {
        no_more = i.no_more;
        counts_in = round_bounded b left routes n i (omega (arith, i.steps_left, triangle_times m left));
        places = i.places;
        kinds = i.kinds;
      })
      (λ left routes n x i e.
      let y = each_found (Better G routes) (try_all attempt routes n).plan e (try_better routes n i.kinds) in
      let c = round_bounded (m * suc left + n.steps) left routes n i (le_refl (m * suc left + n.steps)) in
      record {
        routes_in = omega (arith, length_keep non_empty x, y.fewer, i.routes_in);
        no_more = omega (arith, length_keep non_empty x, y.fewer, i.no_more);
        steps_left = omega (arith, c.steps_in, i.steps_left, triangle_times m left);
        draws_in = c.draws_in;
        places = λ s. occurs_drop_empty s x ∙ y.places s ∙ i.places s;
        kinds = all_keep non_empty y.kinds;
      })
    where
      round_bounded : (most left : ℕ) (routes : Plan) (n : Counts) → Going given b (suc left) routes n → m * suc left + n.steps ≤ most → Bounded most (try_all attempt routes n).counts
      round_bounded most left routes n i le =
          try_bounded most routes (order (lengths_of routes)) n
          (rw (order_length routes) (omega (arith, mul-le-mul_right m i.routes_in, mul_comm (suc left) m))) i.draws_in

  pub reduce_ended : (given : Plan) → All G given → Ended (drop_empty given) (m * triangle (length (drop_empty given))) (reduce attempt given)
  unfolding reduce
  reduce_ended given g =
      rounds_ended (drop_empty given) (m * triangle (length (drop_empty given))) (length (drop_empty given)) (drop_empty given) (record { steps = 0; draws = 0 }) (record {
        routes_in = le_refl (length (drop_empty given));
        no_more = le_refl (length (drop_empty given));
        steps_left = omega arith;
        draws_in = omega arith;
        places = λ s. refl;
        kinds = all_keep non_empty g;
      })

-- What a random move may change: it leaves the number of routes and the places as they are, and the two routes that it makes are feasible and not
-- empty. (How much a perturbation draws: proofs/MoveDraws.) Assumes nothing.
use Rattle.std.specs.Prelude.{ℕ, zero, suc, ◌+◌, ◌*◌, ◌-◌, ◌≤◌, ◌<◌, ◌≡◌, refl, true, cond, ◌&&◌, get_or, set, leb, ltb}
use Rattle.std.proofs.Common.{subst, mod-lt, arith, ltb-false, leb-true, leb-false}
use Rattle.std.proofs.lemmas.Bool.{false≢true}
use mathlib.Core.List.{List, [], ◌∷◌, ◌++◌}
use Rattle.std.proofs.Math.Nat.{le_refl}
use Rattle.std.proofs.Math.ListN.{length, take, drop}
use Rattle.ejection_search.specs.laws.Searches.{and_first, and_second}
use Rattle.ejection_search.specs.laws.All.{All}
use Rattle.ejection_search.specs.laws.Loops.{cond_rule, loop_rule}
use Rattle.ejection_search.specs.laws.Searches.{and_first, and_second}
use Rattle.ejection_search.specs.models.Problem.{Problem}
use Rattle.ejection_search.specs.plan.Plan.{Plan, route, exchange_stops, exchange_tails, non_empty, occurs}
use Rattle.ejection_search.specs.PlanExchanges.{length_exchange_stops, all_exchange_stops, occurs_exchange_stops, first_exchange_stops, second_exchange_stops, length_exchange_tails, all_exchange_tails, occurs_exchange_tails, first_exchange_tails, second_exchange_tails}
use Rattle.ejection_search.specs.route_load.Feasible.{feasible}
use Rattle.perturbation.specs.Perturb.{word, draw, draw_bool, stands, both_non_empty, try_exchange, try_tails, try_move, Drawn, move_between, other_than, move, perturb}

-- ---- what a move keeps

-- G is a kind that every feasible route with a stop in it is of
pub record Moves (G : List ℕ → Type 0) (routes x : Plan) : Type 0 where
  pub number : length x ≡ length routes
  pub places : (c : ℕ) → occurs c x ≡ occurs c routes
  pub kinds : All G routes → All G x

pub non_empty_length : (r : List ℕ) → non_empty r ≡ true → 0 < length r
unfolding non_empty
non_empty_length [] h = absurd (false≢true h)
non_empty_length (c ∷ r) h = omega arith

set_non_empty : (r : List ℕ) (i c : ℕ) → non_empty r ≡ true → non_empty (set r i c) ≡ true
unfolding non_empty
set_non_empty [] i c h = h
set_non_empty (x ∷ r) zero c h = refl
set_non_empty (x ∷ r) (suc i) c h = refl

pub draw_in : (tape : List ℕ) (d m : ℕ) → 0 < m → draw tape d m < m
unfolding draw
draw_in tape d m h = mod-lt (word tape d) h

pub other_in : (a b n : ℕ) → b < n - 1 → other_than a b < n
unfolding other_than
other_in a b n h = cond_rule (λ (k : ℕ). k < n) (leb a b) {x = suc b} {y = b} (λ _. omega arith) (λ _. omega arith)

pub other_apart : (a b : ℕ) → a ≡ other_than a b → ⊥
unfolding other_than
other_apart a b =
    cond_rule (λ (k : ℕ). a ≡ k → ⊥) (leb a b) {x = suc b} {y = b} (λ e q. omega (arith, leb-true a b e)) (λ e q. omega (arith, leb-false a b e))

-- two different routes of the plan, neither of them empty
pub record Between (routes : Plan) (a b : ℕ) : Type 0 where
  pub first_in : a < length routes
  pub second_in : b < length routes
  pub apart : a ≡ b → ⊥
  pub full : both_non_empty a b routes ≡ true

-- ---- a move as the source makes it: the two new routes, tested and then put in place

module _ (p : Problem) (routes : Plan) (a b : ℕ) (w : Between routes a b) (i j : ℕ) where
  pub exchange_by_routes : (ra rb : List ℕ) → ra ≡ set (route a routes) i (get_or (route b routes) j 0) → rb ≡ set (route b routes) j (get_or (route a routes) i 0)
      → try_exchange p a i b j routes ≡ cond (feasible p ra && feasible p rb) (set (set routes a ra) b rb) routes
  unfolding try_exchange
  exchange_by_routes ra rb ea eb =
      rw (
        first_exchange_stops a i b j routes w.apart w.first_in w.second_in,
        second_exchange_stops a i b j routes w.apart w.first_in w.second_in,
        ea,
        eb,
      ) (unfold exchange_stops in refl)

  pub tails_by_routes : (ra rb : List ℕ) → ra ≡ take i (route a routes) ++ drop j (route b routes) → rb ≡ take j (route b routes) ++ drop i (route a routes)
      → try_tails p a i b j routes ≡ cond (non_empty ra && non_empty rb) (cond (feasible p ra && feasible p rb) (set (set routes a ra) b rb) routes) routes
  unfolding try_tails
  tails_by_routes ra rb ea eb =
      rw (
        first_exchange_tails a i b j routes w.apart w.first_in w.second_in,
        second_exchange_tails a i b j routes w.apart w.first_in w.second_in,
        ea,
        eb,
      ) (unfold exchange_tails in refl)

-- ---- what stands keeps

module _ (p : Problem) (G : List ℕ → Type 0) (pass : (r : List ℕ) → feasible p r ≡ true → non_empty r ≡ true → G r)
    (Q : Plan → Type 0) (routes : Plan) (step : (x : Plan) → Moves G routes x → Q x) (here : Q routes)
    (a b : ℕ) (w : Between routes a b) where
  exchange_keeps : (i j : ℕ) → i < length (route a routes) → j < length (route b routes) → Q (try_exchange p a i b j routes)
  unfolding try_exchange
  exchange_keeps i j hi hj =
      let x = exchange_stops a i b j routes in
      cond_rule Q (stands p a b x) (λ e. step x (record {
        number = length_exchange_stops a i b j routes;
        places = λ c. occurs_exchange_stops a i b j routes w.apart c w.first_in w.second_in hi hj;
        kinds = λ g. all_exchange_stops a i b j routes
            (pass (set (route a routes) i (get_or (route b routes) j 0)) (subst (λ (r : List ℕ). feasible p r ≡ true) (first_exchange_stops a i b j routes w.apart w.first_in w.second_in) (and_first (feasible p (route a x)) (feasible p (route b x)) e))
            (set_non_empty (route a routes) i (get_or (route b routes) j 0) (and_first (non_empty (route a routes)) (non_empty (route b routes)) w.full)))
            (pass (set (route b routes) j (get_or (route a routes) i 0)) (subst (λ (r : List ℕ). feasible p r ≡ true) (second_exchange_stops a i b j routes w.apart w.first_in w.second_in) (and_second (feasible p (route a x)) (feasible p (route b x)) e))
            (set_non_empty (route b routes) j (get_or (route a routes) i 0) (and_second (non_empty (route a routes)) (non_empty (route b routes)) w.full)))
            g;
      })) (λ _. here)

  tails_keeps : (i j : ℕ) → Q (try_tails p a i b j routes)
  unfolding try_tails
  tails_keeps i j =
      let x = exchange_tails a i b j routes in
      let ra = take i (route a routes) ++ drop j (route b routes) in
      let rb = take j (route b routes) ++ drop i (route a routes) in
      cond_rule Q (both_non_empty a b x) (λ f. cond_rule Q (stands p a b x) (λ e. step x (record {
        number = length_exchange_tails a i b j routes;
        places = λ c. occurs_exchange_tails a i b j routes w.apart c w.first_in w.second_in;
        kinds = λ g. all_exchange_tails a i b j routes
            (pass ra (subst (λ (r : List ℕ). feasible p r ≡ true) (first_exchange_tails a i b j routes w.apart w.first_in w.second_in) (and_first (feasible p (route a x)) (feasible p (route b x)) e))
            (subst (λ (r : List ℕ). non_empty r ≡ true) (first_exchange_tails a i b j routes w.apart w.first_in w.second_in) (and_first (non_empty (route a x)) (non_empty (route b x)) f)))
            (pass rb (subst (λ (r : List ℕ). feasible p r ≡ true) (second_exchange_tails a i b j routes w.apart w.first_in w.second_in) (and_second (feasible p (route a x)) (feasible p (route b x)) e))
            (subst (λ (r : List ℕ). non_empty r ≡ true) (second_exchange_tails a i b j routes w.apart w.first_in w.second_in) (and_second (non_empty (route a x)) (non_empty (route b x)) f)))
            g;
      })) (λ _. here)) (λ _. here)

  move_keeps : (tape : List ℕ) (d : ℕ) → Q (try_move p tape d a b routes)
  unfolding try_move
  move_keeps tape d =
      let m = length (route a routes) in
      let n = length (route b routes) in
      cond_rule Q (draw_bool tape (d + 2))
      (λ _. exchange_keeps (draw tape (d + 3) m) (draw tape (d + 4) n)
      (draw_in tape (d + 3) m (non_empty_length (route a routes) (and_first (non_empty (route a routes)) (non_empty (route b routes)) w.full)))
      (draw_in tape (d + 4) n (non_empty_length (route b routes) (and_second (non_empty (route a routes)) (non_empty (route b routes)) w.full))))
      (λ _. tails_keeps (draw tape (d + 3) (suc m)) (draw tape (d + 4) (suc n)))

-- What each move that stands keeps, a turn keeps: it takes two different routes.
pub move_rule : (p : Problem) (tape : List ℕ) (G : List ℕ → Type 0) → ((r : List ℕ) → feasible p r ≡ true → non_empty r ≡ true → G r)
    → (Q : Plan → Type 0) (s : Drawn) → 2 ≤ length s.routes → ((x : Plan) → Moves G s.routes x → Q x) → Q s.routes → Q (move p tape s).routes
unfolding move move_between
move_rule p tape G pass Q s h step q =
    let n = length s.routes in
    let a = draw tape s.draws n in
    let v = draw tape (s.draws + 1) (n - 1) in
    cond_rule (λ (t : Drawn). Q t.routes) (both_non_empty a (other_than a v) s.routes)
    (λ e. move_keeps p G pass Q s.routes step q a (other_than a v)
    (record {
      first_in = draw_in tape s.draws n (omega arith);
      second_in = other_in a v n (draw_in tape (s.draws + 1) (n - 1) (omega arith));
      apart = other_apart a v;
      full = e;
    }) tape s.draws)
    (λ _. q)

-- The perturbation keeps it too.
pub perturb_rule : (p : Problem) (tape : List ℕ) (G : List ℕ → Type 0) → ((r : List ℕ) → feasible p r ≡ true → non_empty r ≡ true → G r)
    → (Q : Plan → Type 0) → ((routes x : Plan) → Moves G routes x → Q routes → Q x) → (s : Drawn) → Q s.routes → Q (perturb p tape s).routes
unfolding perturb
perturb_rule p tape G pass Q step s q =
    cond_rule (λ (d : Drawn). Q d.routes) (ltb (length s.routes) 2) (λ _. q)
    (λ e. (loop_rule (λ _ (d : Drawn). Two d.routes) 100 (λ i. move p tape) (λ i d _ h. moved d h) (omega (arith, ltb-false (length s.routes) 2 e), q)).1)
  where
    -- there are two routes to choose from
    Two : Plan → Type 0
    Two routes = (2 ≤ length routes) × Q routes

    moved : (d : Drawn) → Two d.routes → Two (move p tape d).routes
    moved d h = let h0 = h.0 in move_rule p tape G pass Two d h0 (λ x m. (rw m.number h0, step d.routes x m h.1)) h

-- A turn leaves every place in the plan as often as it was.
pub move_places : (p : Problem) (tape : List ℕ) (s : Drawn) → 2 ≤ length s.routes → (c : ℕ) → occurs c (move p tape s).routes ≡ occurs c s.routes
move_places p tape s h c = move_rule p tape (λ _. Unit {0}) (λ _ _ _. tt) (λ (x : Plan). occurs c x ≡ occurs c s.routes) s h (λ x m. m.places c) refl

-- What the ejection finds lies in the plan, the route that it makes is feasible, and no stop is lost. Assumes nothing.
use Prim.Native.Nat.{ℕ, suc, ◌+◌, ◌-◌, ◌≤◌, ◌<◌}
use Rattle.std.specs.Prelude.{◌≡◌, refl, Bool, true, false, cond, List, [], ◌∷◌, ◌++◌, length, get_or, take, drop, eqb}
use Rattle.std.proofs.Common.{ap, ◌∙◌, le_refl, eqb-true, drop-cons, drop-drop, take-take, length-take-le}
use Rattle.std.specs.Prelude.{Option, None, Some}
use native.Mathlib.Omega.{arith}
use Rattle.std.proofs.lemmas.Bool.{eqb-false}
use Rattle.std.proofs.lemmas.List.{take-append-le, drop-append-le}
use Rattle.insertion.specs.laws.Lists.{drop_take}
use Rattle.insertion.specs.laws.Edits.{erase}
use Rattle.insertion.specs.laws.Counts.{one_if, count, count_append, count_parts, count_insert_at}
use Rattle.insertion.specs.laws.Loops.{cond_rule, loop_rule}
use Rattle.insertion.specs.models.Problem.{Problem, depot}
use Rattle.insertion.specs.plan.Plan.{Plan, route}
use Rattle.insertion.specs.local_search.Options.{Each, each_or_else}
use Rattle.insertion.specs.route_cost.Route.{insertion_cost}
use Rattle.insertion.specs.route_load.Feasible.{has_room, feasible}
use Rattle.insertion.specs.quick_test.Quick.{Times, times}
use Rattle.insertion.specs.Cheapest.{may_go_in}
use Rattle.insertion.specs.Inserted.{may_go_in_feasible}
use Rattle.ejection.specs.declared.Ejection.{Ejection}
use Rattle.ejection.specs.Eject.{kept, ejected, failure_sum, fails_more, outranks, try_in_kept, try_kept, try_left, try_out, try_one, try_two_from, try_two, eject_one, eject_two, eject, into, gone}

-- the stops that stay and those that leave are those of the route
pub kept_count : (x i j : ℕ) (r : List ℕ) → i ≤ j → j < length r → count x (kept i j r) + count x (ejected i j r) ≡ count x r
unfolding kept ejected count
kept_count x i j r h g = go (eqb i j) refl
  where
    -- front, what lies between, and the end
    parts : count x (kept i j r) ≡ count x (take i r) + (count x (take (j - suc i) (drop (suc i) r)) + count x (drop (suc j) r))
    parts =
        count_append x (take i r) (take (j - suc i) (drop (suc i) r) ++ drop (suc j) r)
        ∙ ap (λ (n : ℕ). count x (take i r) + n) (count_append x (take (j - suc i) (drop (suc i) r)) (drop (suc j) r))

    at_first : count x (drop i r) ≡ one_if (eqb x (get_or r i 0)) + count x (drop (suc i) r)
    at_first = ap (count x) (drop-cons r i 0 (omega arith))

    nothing : i ≡ j → j - suc i ≡ 0
    nothing e = omega arith

    go : (t : Bool) → eqb i j ≡ t → count x (kept i j r) + count x (get_or r i 0 ∷ cond t [] (get_or r j 0 ∷ [])) ≡ count x r
    go true e =
        let same : i ≡ j = eqb-true i j e in
        let none_between : count x (take (j - suc i) (drop (suc i) r)) ≡ 0 = ap (λ (k : ℕ). count x (take k (drop (suc i) r))) (nothing same) in
        omega (arith, parts, none_between, count_parts x i r, at_first, ap (λ (k : ℕ). count x (drop (suc k) r)) same)
    go false e =
        let apart : suc i ≤ j = strict (eqb-false i j e) in
        let there : suc i + (j - suc i) ≡ j = omega arith in
        let rest : count x (drop (j - suc i) (drop (suc i) r)) ≡ count x (drop j r) = ap (count x) (drop-drop (j - suc i) (suc i) r) ∙ ap (λ (k : ℕ). count x (drop k r)) there in
        let at_second : count x (drop j r) ≡ one_if (eqb x (get_or r j 0)) + count x (drop (suc j) r) = ap (count x) (drop-cons r j 0 g) in
        omega (arith, parts, count_parts x i r, at_first, count_parts x (j - suc i) (drop (suc i) r), rest, at_second)
      where
        strict : (i ≡ j → ⊥) → suc i ≤ j
        strict n = omega arith

-- one stop taken out, or two, the later first: `filter(|(i, _)| !out.contains(i))`
pub kept_one : (i : ℕ) (r : List ℕ) → kept i i r ≡ erase i r
unfolding kept erase
kept_one i r =
    let none_between : i - suc i ≡ 0 = omega arith in
    rw none_between

pub kept_two : (i j : ℕ) (r : List ℕ) → i < j → j < length r → kept i j r ≡ erase i (erase j r)
unfolding kept erase
kept_two i j r h g =
    let l : length (take j r) ≡ j = length-take-le j r (omega arith) in
    rw (
      take-append-le i (take j r) (drop (suc j) r) (omega arith),
      take-take i j r (omega arith),
      drop-append-le (suc i) (take j r) (drop (suc j) r) (omega arith),
      drop_take (suc i) j r,
    )

-- an ejection lies in a plan
pub record Inside (routes : Plan) (e : Ejection) : Type 0 where
  pub there : e.route < length routes
  pub in_order : e.first ≤ e.second
  pub within : e.second < length (route e.route routes)
  pub position : e.pos ≤ length (kept e.first e.second (route e.route routes))

-- and the route that it makes for c is feasible
pub record Ejects (p : Problem) (routes : Plan) (c : ℕ) (e : Ejection) : Type 0 where
  pub inside : Inside routes e
  pub feasible_with : feasible p (into routes c e) ≡ true

-- the route made and the stops ejected are the popped stop and the route's own
pub ejects_count : (p : Problem) (routes : Plan) (c : ℕ) (e : Ejection) → Ejects p routes c e → (x : ℕ)
    → count x (into routes c e) + count x (gone routes e) ≡ count x (c ∷ route e.route routes)
unfolding count
ejects_count p routes c e h x =
    let r = route e.route routes in
    omega (arith, count_insert_at x e.pos c (kept e.first e.second r), kept_count x e.first e.second r h.inside.in_order h.inside.within)

module _ (p : Problem) (routes : Plan) (c : ℕ) (failures : List ℕ) where
  abbrev Out : Option Ejection → Type 0
  Out = Each (Ejects p routes c)

  module _ (k : ℕ) (k-in : k < length routes) where
    kept_found : (n i j : ℕ) → i ≤ j → j < length (route k routes) → (o : Option Times) (best : Option Ejection) → Out best
        → Out (try_kept p c n k i j (kept i j (route k routes)) o best)
    unfolding try_kept try_in_kept
    kept_found n i j h g None best b = b
    kept_found n i j h g (Some t) best b =
        let left = kept i j (route k routes) in
        loop_rule (λ _. Out) (suc (length left)) (try_in_kept p c n k i j left t) (λ pos best pos-in b.
        cond_rule Out (outranks n (insertion_cost p.roads (depot p) left pos c) best)
        (λ _. cond_rule Out (may_go_in p left t pos c)
        (λ e. record { inside = record { there = k-in; in_order = h; within = g; position = omega arith }; feasible_with = may_go_in_feasible p left t pos c e })
        (λ _. b))
        (λ _. b)) b

    out_found : (i j : ℕ) → i ≤ j → j < length (route k routes) → (best : Option Ejection) → Out best → Out (try_out p c failures k (route k routes) i j best)
    unfolding try_out try_left
    out_found i j h g best b =
        let r = route k routes in
        let n = failure_sum failures r i j in
        cond_rule Out (fails_more n best) (λ _. b)
        (λ _. cond_rule Out (has_room p (kept i j r) c) (λ _. kept_found n i j h g (times p (kept i j r)) best b) (λ _. b))

  one_found : Out (eject_one p routes c failures)
  unfolding eject_one try_one
  one_found =
      loop_rule (λ _. Out) (length routes) (λ k. try_one p c failures k (route k routes)) (λ k best k-in b.
      loop_rule (λ _. Out) (length (route k routes)) (λ i. try_out p c failures k (route k routes) i i)
      (λ i best i-in b. out_found k k-in i i (le_refl i) i-in best b) b) tt

  two_found : Out (eject_two p routes c failures)
  unfolding eject_two try_two try_two_from
  two_found =
      loop_rule (λ _. Out) (length routes) (λ k. try_two p c failures k (route k routes)) (λ k best k-in b.
      let r = route k routes in
      loop_rule (λ _. Out) (length r) (try_two_from p c failures k r) (λ i best i-in b.
      loop_rule (λ _. Out) (length r - suc i) (λ d. try_out p c failures k r i (suc i + d))
      (λ d best d-in b. out_found k k-in i (suc i + d) (omega arith) (omega arith) best b) b) b) tt

  pub eject_found : Each (Ejects p routes c) (eject p routes c failures)
  unfolding eject
  eject_found = each_or_else (Ejects p routes c) (eject_one p routes c failures) (eject_two p routes c failures) one_found two_found

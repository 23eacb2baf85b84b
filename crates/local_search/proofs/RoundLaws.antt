-- The rounds of attempts as a loop makes them, for any attempt that leaves fewer routes where it is accepted: the whole search is what is left
-- of the round, and then the rounds from the plan that it ends with. Assumes nothing.
use Prim.Native.Nat.{ℕ, zero, suc, ◌≤◌, ◌<◌}
use mathlib.Core.Path.{◌≡◌, refl, sym, ap, ◌∙◌}
use mathlib.Core.Bool.{Bool, true, false}
use mathlib.Core.List.{[], ◌∷◌}
use Rattle.std.proofs.Common.{Option, None, Some}
use native.Mathlib.Omega.{arith}
use borrow.Author.Tests.{eqb-true, eqb-false}
use lib.ListN.{length}
use lib.Dec.{eqb}
use Rattle.route_order.specs.laws.Keeps.{length_keep}
use Rattle.route_order.specs.laws.Sorts.{range, smallest, sort_by}
use Rattle.route_order.specs.plan.Plan.{Plan, non_empty, drop_empty}
use Rattle.local_search.specs.Options.{Each, each_found}
use Rattle.local_search.specs.declared.rounds.Counts.{Counts}
use Rattle.local_search.specs.Rounds.{Tried, Result, Attempt, try_each, try_all, or_end, rounds}
use Rattle.local_search.specs.Reduced.{round_has, rounds_enough}

-- the rounds from the routes on, as many as there are routes
abbrev pub rounds_of : Attempt → Plan → Counts → Result
rounds_of attempt routes n = rounds attempt (length routes) routes n

-- what the rounds come to where a round over the routes ends with t
abbrev pub ended_with : Attempt → Plan → Tried → Result
ended_with attempt routes t = or_end (λ plan m. rounds_of attempt plan m) routes t.plan t.counts

module _ (attempt : Attempt)
    (fewer : (routes : Plan) (r : ℕ) (n : Counts) → r < length routes → Each (λ x. length x < length routes) (attempt routes r n).plan) where
  -- more rounds than routes change nothing
  rounds_cut : (left : ℕ) (routes : Plan) (n : Counts) → length routes ≤ left → rounds attempt left routes n ≡ rounds_of attempt routes n
  rounds_cut zero routes n h =
      let e : zero ≡ length routes = omega arith in
      ap (λ (k : ℕ). rounds attempt k routes n) e
  rounds_cut (suc left) routes n h = go (eqb (suc left) (length routes)) refl (λ g. rounds_cut left routes n g)
    where
      go : (t : Bool) → eqb (suc left) (length routes) ≡ t → (length routes ≤ left → rounds attempt left routes n ≡ rounds_of attempt routes n)
          → rounds attempt (suc left) routes n ≡ rounds_of attempt routes n
      go true e rest = ap (λ (k : ℕ). rounds attempt k routes n) (eqb-true (suc left) (length routes) e)
      go false e rest =
          let f = eqb-false (suc left) (length routes) e in
          let g : length routes ≤ left = le_below (length routes) left h f in
          rounds_enough attempt fewer left routes n g ∙ rest g
        where
          le_below : (a b : ℕ) → a ≤ suc b → (suc b ≡ a → ⊥) → a ≤ b
          le_below a b h f = below (eqb a (suc b)) refl
            where
              below : (t : Bool) → eqb a (suc b) ≡ t → a ≤ b
              below true q = absurd (f (sym (eqb-true a (suc b) q)))
              below false q = omega (arith, eqb-false a (suc b) q)

  -- the rounds are a round and what it comes to
  pub rounds_are : (routes : Plan) (n : Counts) → rounds_of attempt routes n ≡ ended_with attempt routes (try_all attempt routes n)
  unfolding rounds or_end try_each range sort_by smallest
  rounds_are [] n = refl
  rounds_are (r ∷ rs) n = go t.plan refl
    where
      t : Tried
      t = try_all attempt (r ∷ rs) n

      go : (o : Option Plan) → t.plan ≡ o → or_end (λ plan m. rounds attempt (length rs) plan m) (r ∷ rs) o t.counts ≡ or_end (λ plan m. rounds_of attempt plan m) (r ∷ rs) o t.counts
      go None e = refl
      go (Some x) e =
          let y = each_found (λ z. length z < suc (length rs)) t.plan e (round_has attempt (λ z. length z < suc (length rs)) (r ∷ rs) (fewer (r ∷ rs)) n) in
          rounds_cut (length rs) (drop_empty x) t.counts (omega (arith, length_keep non_empty x))

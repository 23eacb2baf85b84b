-- Rules of proof for the rounds: what must hold at every attempt and every round so that a property holds at the end. Assumes nothing.
use Prim.Native.Nat.{ℕ, zero, suc}
use Rattle.std.specs.Prelude.{◌≡◌}
use Rattle.std.proofs.Math.Path.{refl}
use mathlib.Core.List.{List, [], ◌∷◌}
use Rattle.std.specs.Prelude.{Option, None, Some}
use Rattle.route_order.specs.plan.Plan.{Plan, drop_empty}
use Rattle.local_search.specs.declared.rounds.Counts.{Counts}
use Rattle.local_search.specs.Rounds.{Tried, Result, Attempt, or_next, try_each, try_all, or_end, rounds}

module _ (attempt : Attempt) where
  -- I holds of the routes left to try and the counts, before each attempt; O of the first attempt that is accepted, or of the end
  pub try_rule : (I : List ℕ → Counts → Type 0) (O : Tried → Type 0) (routes : Plan)
      → ((n : Counts) → I [] n → O (record { plan = None; counts = n }))
      → ((r : ℕ) (rs : List ℕ) (n : Counts) → I (r ∷ rs) n → (attempt routes r n).plan ≡ None → I rs (attempt routes r n).counts)
      → ((r : ℕ) (rs : List ℕ) (n : Counts) (x : Plan) → I (r ∷ rs) n → (attempt routes r n).plan ≡ Some x
      → O (record { plan = Some x; counts = (attempt routes r n).counts }))
      → (rs : List ℕ) (n : Counts) → I rs n → O (try_each attempt routes rs n)
  unfolding try_each or_next
  try_rule I O routes none_left refused accepted [] n i = none_left n i
  try_rule I O routes none_left refused accepted (r ∷ rs) n i = go (attempt routes r n).plan refl (λ m. try_rule I O routes none_left refused accepted rs m)
    where
      t : Tried
      t = attempt routes r n

      go : (o : Option Plan) → t.plan ≡ o → ((m : Counts) → I rs m → O (try_each attempt routes rs m))
          → O (or_next (λ m. try_each attempt routes rs m) o t.counts)
      go None e rest = rest t.counts (refused r rs n i e)
      go (Some x) e rest = accepted r rs n x i e

  -- I left holds of the routes and the counts where that many rounds are left; O of what the rounds end with
  pub rounds_rule : (I : ℕ → Plan → Counts → Type 0) (O : Result → Type 0)
      → ((left : ℕ) (routes : Plan) (n : Counts) → I left routes n → O (record { plan = routes; counts = n }))
      → ((left : ℕ) (routes : Plan) (n : Counts) → I (suc left) routes n → O (record { plan = routes; counts = (try_all attempt routes n).counts }))
      → ((left : ℕ) (routes : Plan) (n : Counts) (x : Plan) → I (suc left) routes n → (try_all attempt routes n).plan ≡ Some x
      → I left (drop_empty x) (try_all attempt routes n).counts)
      → (left : ℕ) (routes : Plan) (n : Counts) → I left routes n → O (rounds attempt left routes n)
  unfolding rounds or_end
  rounds_rule I O stop end again zero routes n i = stop zero routes n i
  rounds_rule I O stop end again (suc left) routes n i = go t.plan refl (λ plan m. rounds_rule I O stop end again left plan m)
    where
      t : Tried
      t = try_all attempt routes n

      go : (o : Option Plan) → t.plan ≡ o → ((plan : Plan) (m : Counts) → I left plan m → O (rounds attempt left plan m))
          → O (or_end (λ plan m. rounds attempt left plan m) routes o t.counts)
      go None e rest = end left routes n i
      go (Some x) e rest = rest (drop_empty x) t.counts (again left routes n x i e)

-- ---- one turn as an equation, for the invariants of the code's loops

module _ (attempt : Attempt) (routes : Plan) where
  pub try_next : (r : ℕ) (rs : List ℕ) (n : Counts) → (attempt routes r n).plan ≡ None
      → try_each attempt routes (r ∷ rs) n ≡ try_each attempt routes rs (attempt routes r n).counts
  unfolding try_each or_next
  try_next r rs n e = rw e

  pub try_taken : (r : ℕ) (rs : List ℕ) (n : Counts) (x : Plan) → (attempt routes r n).plan ≡ Some x
      → try_each attempt routes (r ∷ rs) n ≡ record { plan = Some x; counts = (attempt routes r n).counts }
  unfolding try_each or_next
  try_taken r rs n x e = rw e

  pub rounds_more : (left : ℕ) (n : Counts) (x : Plan) → (try_all attempt routes n).plan ≡ Some x
      → rounds attempt (suc left) routes n ≡ rounds attempt left (drop_empty x) (try_all attempt routes n).counts
  unfolding rounds or_end
  rounds_more left n x e = rw e

  pub rounds_end : (left : ℕ) (n : Counts) → (try_all attempt routes n).plan ≡ None
      → rounds attempt (suc left) routes n ≡ record { plan = routes; counts = (try_all attempt routes n).counts }
  unfolding rounds or_end
  rounds_end left n e = rw e

-- The search as the code makes it: what an attempt and the next attempt of a round leave in the two slices, and what the call answers.
-- Assumes nothing.
use Rattle.std.specs.Prelude.{ℕ, suc, ◌+◌, ◌-◌, ◌<◌, ◌≡◌, List, [], ◌∷◌, ◌++◌, length, take}
use Rattle.std.specs.Prelude.{Option, None, Some}
use Rattle.route_order.specs.declared.Pick.{Pick}
use Rattle.route_order.specs.plan.Plan.{Plan, Slices, Lent, split, total, written}
use Rattle.route_order.specs.Order.{following}
use Rattle.local_search.specs.declared.rounds.Counts.{Counts}
use Rattle.local_search.specs.declared.rounds.Next.{Next}
use Rattle.local_search.specs.declared.rounds.Next.TheVariants.{End, Kept, Accepted}
use Rattle.local_search.specs.Planned.{Planned}
use Rattle.local_search.specs.Rounds.{Tried, Result, Attempt, try_each}
use Rattle.local_search.specs.Reduced.{Bounded}

-- ---- an attempt

-- the lengths of a plan without a route: the last one is 0
abbrev pub but_last : List ℕ → List ℕ
but_last lengths = take (length lengths - 1) lengths

-- both slices after an accepted attempt
pub record EndsWith0 (lengths stops : List ℕ) : Type 0 where
  pub zero_last : lengths ≡ but_last lengths ++ 0 ∷ []
  pub lent : Lent (but_last lengths) stops

-- ---- the next attempt of a round

-- what the attempts from the last pick on come to, after the next one
abbrev pub tried_next : Attempt → Plan → List ℕ → Counts → Next → Plan → Tried
tried_next attempt routes lengths n End left = record { plan = None; counts = n }
tried_next attempt routes lengths n (Kept pick m) left = try_each attempt routes (following lengths (Some pick)) m
tried_next attempt routes lengths n (Accepted m) left = record { plan = Some left; counts = m }

-- a plan that is kept: a pick less is left
pub record Refused (limit : ℕ) (lengths₀ stops₀ : List ℕ) (last : Option Pick) (n : Counts) (pick : Pick) (m : Counts) (lengths stops : List ℕ) : Type 0 where
  pub same_lengths : lengths ≡ lengths₀
  pub same_stops : stops ≡ stops₀
  pub counted : Bounded (limit + n.steps) m
  pub pick_less : length (following lengths₀ last) ≡ suc (length (following lengths₀ (Some pick)))

-- a plan that is accepted, over the places of the problem: a length less is in use
pub record Taken (limit size : ℕ) (lengths₀ : List ℕ) (last : Option Pick) (n m : Counts) (lengths stops : List ℕ) : Type 0 where
  pub ends : EndsWith0 lengths stops
  pub counted : Bounded (limit + n.steps) m
  pub planned : Planned size (split (but_last lengths) stops)
  pub whole : total (but_last lengths) ≡ length stops
  pub pick_left : 0 < length (following lengths₀ last)

-- the slices after the next attempt, and the counts
abbrev pub NextLeaves : ℕ → ℕ → List ℕ → List ℕ → Option Pick → Counts → Next → List ℕ → List ℕ → Type 0
NextLeaves limit size lengths₀ stops₀ last n End lengths stops = (lengths ≡ lengths₀) × (stops ≡ stops₀)
NextLeaves limit size lengths₀ stops₀ last n (Kept pick m) lengths stops = Refused limit lengths₀ stops₀ last n pick m lengths stops
NextLeaves limit size lengths₀ stops₀ last n (Accepted m) lengths stops = Taken limit size lengths₀ last n m lengths stops

-- ---- the call

-- the call's answer: the number of routes, the counts, and both slices whole
pub record Answers (x : Result) (size count : ℕ) (counts : Counts) (lengths stops : List ℕ) : Type 0 where
  pub routes : count ≡ length x.plan
  pub counted : counts ≡ x.counts
  pub slices : ◌≡◌ {A = Slices} (record { lengths = lengths; stops = stops }) (written size x.plan)

-- counts of a search that counts nothing
abbrev pub uncounted : Counts
uncounted = record { steps = 0; draws = 0 }

-- a plan as the answer of such a search
abbrev pub left_with : Plan → Result
left_with plan = record { plan = plan; counts = uncounted }

-- What is promised of a list of calls in code. Assumes nothing.
use Rattle.std.specs.Prelude.{ℕ, ◌≡◌, true, false, List, [], ◌∷◌, length, Result, Ok, Err}
use Rattle.recorded_call.specs.models.Problem.{Problem}
use Rattle.recorded_call.specs.plan.Plan.{Slices}
use Rattle.recorded_call.specs.planner.Calls.{Reply}
use Rattle.recorded_call.specs.planner.Run.{Claim}
use Rattle.recorded_call.specs.call_words.Words.{Buffers, plan_slices, calls_in, well_formed, recorded, answer_row, rows}
use Rattle.call_lists.specs.declared.Malformed.{Malformed}

-- "each later one gets both whole as the last call left them": the slices after all calls
unfoldable pub last_slices : Slices → List Reply → Slices
last_slices s [] = s
last_slices s (r ∷ rs) = last_slices r.slices rs

-- the replies to n calls that the buffers hold
abbrev pub replies_in : ℕ → Buffers → List Reply
replies_in n b = recorded n (length b.lengths) (length b.stops) b.answers b.history

-- malformed: nothing is changed
pub record Untouched (calls tapes : List ℕ) (before after : Buffers) : Type 0 where
  pub malformed : well_formed calls tapes before ≡ false
  pub same : after ≡ before

-- demand 3, of what stands in the buffers after the calls
pub record AllRun (n : ℕ) (p : Problem) (calls tapes : List ℕ) (before after : Buffers) : Type 0 where
  pub formed : well_formed calls tapes before ≡ true
  pub count : n ≡ length (calls_in calls tapes)
  pub claim : Claim p (plan_slices before) (calls_in calls tapes) (replies_in n after)
  -- also the words after a refusal, which no reply shows
  pub plain : after.answers ≡ rows answer_row (replies_in n after)
  pub last : plan_slices after ≡ last_slices (plan_slices before) (replies_in n after)

-- what `run_calls` promises by its answer
abbrev pub Leaves : Result ℕ Malformed → Problem → List ℕ → List ℕ → Buffers → Buffers → Type 0
Leaves (Ok n) p calls tapes before after = AllRun n p calls tapes before after
Leaves (Err e) p calls tapes before after = Untouched calls tapes before after

-- What a call of a list asks for and what it leaves: one call, run and recorded. Assumes nothing.
use Rattle.std.specs.Prelude.{ℕ, ◌+◌, ◌*◌, ◌≤◌, ◌≡◌, List, ◌++◌, length, drop}
use Rattle.call_history.specs.models.Problem.{Problem}
use Rattle.call_history.specs.planner.Calls.{Reply}
use Rattle.call_history.specs.planner.Run.{call}
use Rattle.call_history.specs.call_words.declared.Words.{Words}
use Rattle.call_history.specs.call_words.Words.{Buffers, plan_slices, both_slices, call_of, answer_words, put}

-- a call of these words can be run as call i, its tape the first of the tapes, and recorded
pub record Next (i : ℕ) (w : Words) (tapes : List ℕ) (b : Buffers) : Type 0 where
  pub tape : w.tape ≤ length tapes
  pub small : w.work.u16_cells ≤ length b.work
  pub wide : w.work.f64_cells ≤ length b.cells
  pub answer : i * 4 + 4 ≤ length b.answers
  pub slices : i * both_slices b + both_slices b ≤ length b.history

-- the reply to the call of these words
abbrev pub reply_to : Words → Problem → List ℕ → Buffers → Reply
reply_to w p tapes b = call p (plan_slices b) (call_of w tapes)

-- it is run and recorded as call i, and the other tapes are left
pub record Recorded (i : ℕ) (w : Words) (p : Problem) (tapes left : List ℕ) (before after : Buffers) : Type 0 where
  pub slices : plan_slices after ≡ (reply_to w p tapes before).slices
  pub answers : after.answers ≡ put before.answers (i * 4) (answer_words (reply_to w p tapes before).answer)
  pub history : after.history ≡ put before.history (i * both_slices before) (after.lengths ++ after.stops)
  pub tape : left ≡ drop w.tape tapes

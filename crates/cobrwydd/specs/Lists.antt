-- A list of calls in one call of the C interface. Assumes nothing.
use Rattle.std.specs.Prelude.{ℕ, ◌≡◌, List, cond, length, leb}
use Rattle.worth_questions.specs.models.Problem.{Problem}
use Rattle.c_reports.specs.call_words.Words.{Buffers, well_formed, calls_in}
use Rattle.c_reports.specs.call_lists.Lists.{AllRun}

-- 101 where `given` is over 7, then 102 where the words of the list or the lengths of the slices do not fit together, else 0
unfoldable pub list_code : ℕ → List ℕ → List ℕ → Buffers → ℕ
list_code given calls tapes before = cond (leb given 7) (cond (well_formed calls tapes before) 0 102) 101

-- What the call returns and leaves: demand 3 of what it records (call_lists, specs/Lists), or everything as it was, "where a refused call returns its number
-- and changes nothing".
pub record RanList (code given : ℕ) (p : Problem) (calls tapes : List ℕ) (before after : Buffers) : Type 0 where
  pub number : code ≡ list_code given calls tapes before
  pub ran : code ≡ 0 → AllRun (length (calls_in calls tapes)) p calls tapes before after
  pub kept : (code ≡ 0 → ⊥) → after ≡ before

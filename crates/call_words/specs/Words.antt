-- Lists of calls in code: what the lent words ask for, which of them are malformed, and what the recorded words hold. Assumes nothing.
use Rattle.std.specs.Prelude.{ℕ, zero, suc, ◌+◌, ◌*◌, ◌-◌, ◌/◌, Bool, true, cond, ◌&&◌, List, [], ◌∷◌, ◌++◌, length, take, drop, get_or, eqb, leb, Float, Option, Some, None}
use Rattle.planner.specs.plan.Plan.{Slices}
use Rattle.planner.specs.local_search.declared.rounds.Reduction.{Reduction}
use Rattle.planner.specs.entry.declared.Work.{Work}
use Rattle.planner.specs.Calls.{Answer, refused, answered, Reply}
use Rattle.planner.specs.Told.{slices_of, work_of}
use Rattle.planner.specs.Run.{Call, minimise, eliminate}
use Rattle.call_words.specs.declared.Words.{Words}
use Rattle.call_words.specs.declared.Kind.{Kind}
use Rattle.call_words.specs.declared.Kind.TheVariants.{Minimise, Eliminate}

-- ---- what the words ask for

-- 0 is minimise, 1 is eliminate
abbrev pub asks : Words → Option Kind
asks w = cond (eqb w.kind 0) (Some Minimise) (cond (eqb w.kind 1) (Some Eliminate) None)

-- six words: kind, M, K, tape words, u16 and f64 work cells
abbrev pub words_first : List ℕ → Words
words_first calls =
    record { kind = get_or calls 0 0; limit = get_or calls 1 0; clock = get_or calls 2 0; tape = get_or calls 3 0; work = work_of (get_or calls 4 0) (get_or calls 5 0) }

-- n times six words
unfoldable pub words_of : ℕ → List ℕ → List Words
words_of zero calls = []
words_of (suc n) calls = words_first calls ∷ words_of n (drop 6 calls)

-- "Each has work cells of any number and content, minimise its own M, tape and K.": its tape is the first of the tapes
abbrev pub call_of : Words → List ℕ → Call
call_of w tapes =
    cond (eqb w.kind 0)
    (minimise (record { limit = w.limit; clock = w.clock; tape = take w.tape tapes }) w.work)
    (eliminate w.work)

-- each call's tape begins where the last one's ends
unfoldable pub decoded : List Words → List ℕ → List Call
decoded [] tapes = []
decoded (w ∷ ws) tapes = call_of w tapes ∷ decoded ws (drop w.tape tapes)

-- how many calls so many words are
abbrev pub count_of : List ℕ → ℕ
count_of calls = length calls / 6

-- the list of calls that the words and the tapes ask for
abbrev pub calls_in : List ℕ → List ℕ → List Call
calls_in calls tapes = decoded (words_of (count_of calls) calls) tapes

-- ---- which words are malformed

-- 0 is minimise; 1 is eliminate, which has no M, K and tape
unfoldable pub kind_passes : Words → Bool
kind_passes w = cond (eqb w.kind 0) true (eqb w.kind 1 && (eqb w.limit 0 && (eqb w.clock 0 && eqb w.tape 0)))

-- it is lent no more work cells than there are
unfoldable pub call_passes : Work → Words → Bool
call_passes there w = kind_passes w && (leb w.work.u16_cells there.u16_cells && leb w.work.f64_cells there.f64_cells)

-- each passes, and their tapes use up the tape words that are left
unfoldable pub calls_pass : Work → List Words → ℕ → Bool
calls_pass there [] left = eqb left 0
calls_pass there (w ∷ ws) left = call_passes there w && (leb w.tape left && calls_pass there ws (left - w.tape))

-- what is lent to be written
pub record Buffers : Type 0 where
  pub lengths : List ℕ
  pub stops : List ℕ
  pub work : List ℕ
  pub cells : List Float
  pub answers : List ℕ
  pub history : List ℕ

abbrev pub buffers : List ℕ → List ℕ → List ℕ → List Float → List ℕ → List ℕ → Buffers
buffers lengths stops work cells answers history =
    record { lengths = lengths; stops = stops; work = work; cells = cells; answers = answers; history = history }

-- "A plan is two lent slices"
abbrev pub plan_slices : Buffers → Slices
plan_slices b = slices_of b.lengths b.stops

-- how many cells of the history a call fills
abbrev pub both_slices : Buffers → ℕ
both_slices b = length b.lengths + length b.stops

-- six words for each call, four for its answer, and the history's cells
unfoldable pub well_formed : List ℕ → List ℕ → Buffers → Bool
well_formed calls tapes b =
    eqb (length calls) (count_of calls * 6) &&
    (eqb (length b.answers) (count_of calls * 4) &&
    (eqb (length b.history) (count_of calls * both_slices b) &&
    calls_pass (work_of (length b.work) (length b.cells)) (words_of (count_of calls) calls) (length tapes)))

-- ---- what is recorded

-- the number of the refusal, or 0; then routes, steps and draws, 0 where the call is refused
abbrev pub answer_words : Answer Reduction → List ℕ
answer_words (refused n) = n ∷ 0 ∷ 0 ∷ 0 ∷ []
answer_words (answered d) = 0 ∷ d.routes ∷ d.counts.steps ∷ d.counts.draws ∷ []

-- those words read again
abbrev pub answer_in : List ℕ → Answer Reduction
answer_in ws =
    cond (eqb (get_or ws 0 0) 0)
    (answered (record { routes = get_or ws 1 0; counts = record { steps = get_or ws 2 0; draws = get_or ws 3 0 } }))
    (refused (get_or ws 0 0))

-- the replies to n calls, from four words each and so many lengths and stops
unfoldable pub recorded : ℕ → ℕ → ℕ → List ℕ → List ℕ → List Reply
recorded zero l s answers history = []
recorded (suc n) l s answers history =
    record { answer = answer_in answers; slices = slices_of (take l history) (take s (drop l history)) } ∷
    recorded n l s (drop 4 answers) (drop (l + s) history)

-- what is written of a reply: its answer, and both slices after the call
abbrev pub answer_row : Reply → List ℕ
answer_row r = answer_words r.answer

abbrev pub slices_row : Reply → List ℕ
slices_row r = r.slices.lengths ++ r.slices.stops

-- one after the other
unfoldable pub rows : (Reply → List ℕ) → List Reply → List ℕ
rows f [] = []
rows f (r ∷ rs) = f r ++ rows f rs

-- values put into a list from `at` on
abbrev pub put : List ℕ → ℕ → List ℕ → List ℕ
put xs at vs = take at xs ++ vs ++ drop (at + length vs) xs

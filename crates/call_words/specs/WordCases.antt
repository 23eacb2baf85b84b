-- Lists of calls in words: what some of them ask for, which are malformed, and what some records hold; by computation. Assumes nothing.
use Rattle.std.specs.Prelude.{ℕ, ◌≡◌, refl, Bool, true, false, List, [], ◌∷◌, replicate}
use Rattle.std.specs.Float.{nan}
use Rattle.planner.specs.Calls.{refused, answered}
use Rattle.planner.specs.Told.{slices_of, work_of}
use Rattle.planner.specs.Run.{minimise, eliminate}
use Rattle.call_words.specs.Words.{Buffers, buffers, words_of, decoded, calls_in, kind_passes, call_passes, calls_pass, well_formed, recorded}

-- a minimise with M = 5, K = 6 and two tape words, before other calls; an eliminate with so many u16 work cells
abbrev first_call : List ℕ → List ℕ
first_call calls = 0 ∷ 5 ∷ 6 ∷ 2 ∷ 3 ∷ 2 ∷ calls

abbrev last_call : ℕ → List ℕ
last_call small = 1 ∷ 0 ∷ 0 ∷ 0 ∷ small ∷ 0 ∷ []

-- a plan of two routes and two stops, three and two work cells, and so much room for answers and history
abbrev room : ℕ → ℕ → Buffers
room answers history = buffers (1 ∷ 1 ∷ []) (1 ∷ 2 ∷ []) (replicate 3 0) (replicate 2 nan) (replicate answers 0) (replicate history 0)

pub three_calls : calls_in (first_call (first_call (last_call 1))) (7 ∷ 8 ∷ 9 ∷ 10 ∷ [])
    ≡ minimise (record { limit = 5; clock = 6; tape = 7 ∷ 8 ∷ [] }) (work_of 3 2)
    ∷ minimise (record { limit = 5; clock = 6; tape = 9 ∷ 10 ∷ [] }) (work_of 3 2)
    ∷ eliminate (work_of 1 0) ∷ []
unfolding words_of decoded
three_calls = refl

abbrev judged : List Bool
judged =
    well_formed (first_call (last_call 3)) (7 ∷ 8 ∷ []) (room 8 8)
    ∷ well_formed [] [] (room 0 0)
    -- a word too few or too many
    ∷ well_formed (5 ∷ []) [] (room 0 0)
    ∷ well_formed (first_call (7 ∷ [])) (7 ∷ 8 ∷ []) (room 4 4)
    -- a tape word too few or too many
    ∷ well_formed (first_call (last_call 3)) (7 ∷ []) (room 8 8)
    ∷ well_formed (first_call (last_call 3)) (7 ∷ 8 ∷ 9 ∷ []) (room 8 8)
    -- a work cell more than there are
    ∷ well_formed (first_call (last_call 4)) (7 ∷ 8 ∷ []) (room 8 8)
    -- an answer's word or a cell of the history more
    ∷ well_formed (first_call (last_call 3)) (7 ∷ 8 ∷ []) (room 9 8)
    ∷ well_formed (first_call (last_call 3)) (7 ∷ 8 ∷ []) (room 8 9)
    -- a kind that there is not, and an eliminate with M, K or a tape
    ∷ well_formed (2 ∷ 0 ∷ 0 ∷ 0 ∷ 0 ∷ 0 ∷ []) [] (room 4 4)
    ∷ well_formed (1 ∷ 1 ∷ 0 ∷ 0 ∷ 0 ∷ 0 ∷ []) [] (room 4 4)
    ∷ well_formed (1 ∷ 0 ∷ 1 ∷ 0 ∷ 0 ∷ 0 ∷ []) [] (room 4 4)
    ∷ well_formed (1 ∷ 0 ∷ 0 ∷ 1 ∷ 0 ∷ 0 ∷ []) (7 ∷ []) (room 4 4)
    ∷ []

pub malformed_lists : judged ≡ true ∷ true ∷ false ∷ false ∷ false ∷ false ∷ false ∷ false ∷ false ∷ false ∷ false ∷ false ∷ false ∷ []
unfolding words_of kind_passes call_passes calls_pass well_formed
malformed_lists = refl

-- an answer of one route after two steps, and a refusal by row 9
pub two_replies : recorded 2 2 2 (0 ∷ 1 ∷ 2 ∷ 0 ∷ 9 ∷ 0 ∷ 0 ∷ 0 ∷ []) (2 ∷ 0 ∷ 1 ∷ 2 ∷ 2 ∷ 0 ∷ 2 ∷ 1 ∷ [])
    ≡ record { answer = answered (record { routes = 1; counts = record { steps = 2; draws = 0 } }); slices = slices_of (2 ∷ 0 ∷ []) (1 ∷ 2 ∷ []) }
    ∷ record { answer = refused 9; slices = slices_of (2 ∷ 0 ∷ []) (2 ∷ 1 ∷ []) } ∷ []
unfolding recorded
two_replies = refl

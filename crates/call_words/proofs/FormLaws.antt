-- Judging the form of a list of calls: its words, and the tape words that are left. Assumes nothing.
use Prim.Native.Nat.{ℕ, zero, suc, ◌+◌, ◌-◌, ◌≤◌, ◌<◌}
use mathlib.Core.Path.{◌≡◌, refl, ◌∙◌}
use mathlib.Core.Bool.{true, false, ◌&&◌}
use mathlib.Core.List.{List, []}
use Rattle.std.specs.Prelude.{map}
use native.Mathlib.Numerals.{add-one}
use native.Mathlib.Omega.{arith}
use lib.ListN.{length, take, drop, get_or}
use lib.Seq.{get_or-take, drop-cons}
use Rattle.std.proofs.lemmas.List.{drop_all}
use lib.Dec.{eqb, leb}
use borrow.Author.Tests.{le-leb, lt-leb}
use Rattle.std.specs.Simd.{first_chunks}
use Rattle.planner.specs.entry.declared.Work.{Work}
use Rattle.call_words.specs.declared.Words.{Words}
use Rattle.call_words.specs.Words.{words_first, words_of, call_passes, calls_pass}

-- ---- the calls, six words at a time

pub words_rows : (n : ℕ) (calls : List ℕ) → map words_first (first_chunks 6 n calls) ≡ words_of n calls
unfolding words_of
words_rows zero calls = refl
words_rows (suc n) calls =
    let r : (k : ℕ) → k < 6 → get_or (take 6 calls) k 0 ≡ get_or calls k 0 = λ k h. get_or-take 6 calls k 0 h in
    rw (r 0 (omega arith), r 1 (omega arith), r 2 (omega arith), r 3 (omega arith), r 4 (omega arith), r 5 (omega arith), words_rows n (drop 6 calls))

-- ---- `calls_pass`: the whole list is judged as what is left of it

-- i calls passed, and so many tape words are left
pub record Judging (there : Work) (calls : List (List ℕ)) (tapes left i : ℕ) : Type 0 where
  pub rest : calls_pass there (map words_first calls) tapes ≡ calls_pass there (map words_first (drop i calls)) left

module _ (there : Work) (calls : List (List ℕ)) (tapes left i : ℕ) (j : Judging there calls tapes left i) where
  pub judging_end : length calls ≤ i → eqb left 0 ≡ calls_pass there (map words_first calls) tapes
  unfolding calls_pass
  judging_end h = rw (j.rest, drop_all i calls h)

  module _ (w : Words) (e : w ≡ words_first (get_or calls i [])) (h : i < length calls) where
    opened : calls_pass there (map words_first calls) tapes
        ≡ (call_passes there w && (leb w.tape left && calls_pass there (map words_first (drop (i + 1) calls)) (left - w.tape)))
    unfolding calls_pass
    opened = j.rest ∙ rw (add-one i, drop-cons calls i [] h, e)

    pub judging_no_call : call_passes there w ≡ false → false ≡ calls_pass there (map words_first calls) tapes
    judging_no_call f = rw (opened, f)

    pub judging_no_tape : call_passes there w ≡ true → left < w.tape → false ≡ calls_pass there (map words_first calls) tapes
    judging_no_tape f g = rw (opened, f, lt-leb w.tape left g)

    pub judging_more : call_passes there w ≡ true → w.tape ≤ left → Judging there calls tapes (left - w.tape) (i + 1)
    judging_more f g = record { rest = rw (opened, f, le-leb w.tape left g) }

pub ruleset judging_laws = (judging_end, judging_no_call, judging_no_tape, judging_more)

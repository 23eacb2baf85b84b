-- The run of a list of calls: what is done before call i, kept by a call, and at the end the claim about what is recorded. Assumes nothing.
use Prim.Native.Nat.{ℕ, zero, suc, ◌+◌, ◌*◌, ◌-◌, ◌≤◌, ◌<◌}
use mathlib.Core.Path.{◌≡◌, refl, sym, ap, subst, ◌∙◌}
use mathlib.Core.Bool.{true, ◌&&◌}
use mathlib.Core.List.{List, [], ◌∷◌, ◌++◌, append-nil, append_assoc}
use Rattle.std.specs.Prelude.{Option, None, Some, map}
use native.Mathlib.Nat.{le_refl, mul-le-mul_right, zero-mul, one-mul, add-mul}
use native.Mathlib.Numerals.{add-one}
use native.Mathlib.Omega.{arith}
use lib.ListN.{length, take, drop, get_or, length-append}
use Rattle.std.proofs.lemmas.List.{drop_all, length-drop}
use lib.Seq.{take_all, take_at, drop_at, drop-cons, length-take-le}
use lib.Dec.{eqb, leb}
use borrow.Author.Tests.{eqb-true, ne_eqb, leb-true}
use Rattle.recorded_call.specs.laws.All.{All, all_nil, all_cons, all_append}
use Rattle.recorded_call.specs.laws.Loops.{cond_rule}
use Rattle.recorded_call.specs.laws.Searches.{and_first, and_second}
use Rattle.recorded_call.specs.models.Problem.{Problem}
use Rattle.recorded_call.specs.plan.Plan.{Slices}
use Rattle.recorded_call.specs.local_search.declared.rounds.Reduction.{Reduction}
use Rattle.recorded_call.specs.local_search.Rounds.{Result}
use Rattle.recorded_call.specs.entry.declared.Work.{Work}
use Rattle.recorded_call.specs.entry.Table.{Inputs, Row, table, first_applying, refusal}
use Rattle.recorded_call.specs.entry.Given.{minimise_inputs, eliminate_inputs}
use Rattle.recorded_call.specs.call_words.declared.Words.{Words}
use Rattle.recorded_call.specs.planner.Calls.{Answer, refused, answered, Reply, reply, public_minimise, public_eliminate}
use Rattle.recorded_call.specs.planner.Told.{work_of}
use Rattle.recorded_call.specs.planner.Run.{Call, minimise, eliminate, call, run, Claim}
use Rattle.recorded_call.specs.call_words.Words.{Buffers, plan_slices, both_slices, words_first, words_of, call_of, decoded, count_of, calls_in, kind_passes, call_passes, calls_pass, well_formed, answer_words, answer_in, answer_row, slices_row, recorded, rows, put}
use Rattle.recorded_call.specs.call_words.Lent.{AsLong}
use Rattle.call_lists.specs.Lists.{last_slices, replies_in, AllRun}
use Rattle.recorded_call.specs.Recording.{Next, reply_to, Recorded}
use Rattle.recorded_call.specs.PlannerDemand3.{demand_3}
use Rattle.std.specs.Simd.{first_chunks}
use Rattle.recorded_call.specs.CallWordsFormLaws.{words_rows}

-- ---- the number of a refusal is not 0

first_number : (rs : List Row) → All (λ r. 0 < r.number) rs → (x : Inputs) (n : ℕ) → first_applying rs x ≡ Some n → 0 < n
unfolding first_applying
first_number [] a x n e = let z : ◌≡◌ {A = ℕ} 0 1 = cc in absurd (omega arith)
first_number (r ∷ rs) (all_cons h a) x n e =
    cond_rule (λ o. o ≡ Some n → 0 < n) (r.applies x) (λ _ f. let k : r.number ≡ n = cc in omega (arith, h)) (λ _. first_number rs a x n) e

refusal_number : (x : Inputs) (n : ℕ) → refusal x ≡ Some n → 0 < n
unfolding refusal table
refusal_number x n e =
    first_number table
    (all_cons (omega arith) (all_cons (omega arith) (all_cons (omega arith) (all_cons (omega arith) (all_cons (omega arith) (all_cons (omega arith) (all_cons (omega arith) (all_cons (omega arith) (all_cons (omega arith) all_nil)))))))))
    x n e

reply_number : (s : Slices) (o : Option ℕ) (x : Result) (n : ℕ) → ((k : ℕ) → o ≡ Some k → 0 < k) → (reply s o x).answer ≡ refused n → 0 < n
unfolding reply
reply_number s None x n h e = let z : ◌≡◌ {A = ℕ} 0 1 = cc in absurd (omega arith)
reply_number s (Some k) x n h e = let f : k ≡ n = cc in omega (arith, h k refl)

call_number : (p : Problem) (s : Slices) (c : Call) (n : ℕ) → (call p s c).answer ≡ refused n → 0 < n
unfolding call public_minimise public_eliminate
call_number p s (minimise given w) n e = reply_number s _ _ n (refusal_number (minimise_inputs p s given.tape given.limit w)) e
call_number p s (eliminate w) n e = reply_number s _ _ n (refusal_number (eliminate_inputs p s w)) e

-- ---- what is written of a reply is read again

record Readable (l s : ℕ) (r : Reply) : Type 0 where
  lengths_long : length r.slices.lengths ≡ l
  stops_long : length r.slices.stops ≡ s
  number : (n : ℕ) → r.answer ≡ refused n → 0 < n

length_answer : (a : Answer Reduction) → length (answer_words a) ≡ 4
length_answer (refused n) = refl
length_answer (answered d) = refl

answer_read : (a : Answer Reduction) (ws : List ℕ) → ((n : ℕ) → a ≡ refused n → 0 < n) → answer_in (answer_words a ++ ws) ≡ a
answer_read (refused n) ws h = rw (ne_eqb n 0 (λ e. absurd (omega (arith, h n refl))))
answer_read (answered d) ws h = refl

module _ (l s : ℕ) where
  recorded_rows : {rs : List Reply} → All (Readable l s) rs → recorded (length rs) l s (rows answer_row rs) (rows slices_row rs) ≡ rs
  unfolding recorded rows
  recorded_rows all_nil = refl
  recorded_rows (all_cons {x = r} {xs = rs} h a) =
      let ws = rows answer_row rs in
      let hs = rows slices_row rs in
      let ls = r.slices.lengths in
      let ss = r.slices.stops in
      let long : length (ls ++ ss) ≡ l + s = rw (length-append, h.lengths_long, h.stops_long) in
      rw (
        answer_read r.answer ws h.number,
        drop_at (answer_words r.answer) ws 4 (length_answer r.answer),
        drop_at (ls ++ ss) hs (l + s) long,
        append_assoc ls ss hs,
        take_at ls (ss ++ hs) l h.lengths_long,
        drop_at ls (ss ++ hs) l h.lengths_long,
        take_at ss hs s h.stops_long,
        recorded_rows a,
      )

-- ---- a reply more

take_put : (xs vs : List ℕ) (at n : ℕ) → at ≤ length xs → n ≡ at + length vs → take n (put xs at vs) ≡ take at xs ++ vs
take_put xs vs at n h e = take_at (take at xs ++ vs) (drop (at + length vs) xs) n (rw (length-append, length-take-le at xs h) (sym e))

rows_more : (f : Reply → List ℕ) (rs : List Reply) (r : Reply) → rows f (rs ++ (r ∷ [])) ≡ rows f rs ++ f r
unfolding rows
rows_more f [] r = append-nil (f r)
rows_more f (q ∷ rs) r = rw (rows_more f rs r) (sym (append_assoc (f q) (rows f rs) (f r)))

-- the rows so far, with one put after them
rows_put : (f : Reply → List ℕ) (rs : List Reply) (r : Reply) (xs ys vs : List ℕ) (at n : ℕ) → ys ≡ put xs at vs → vs ≡ f r → at ≤ length xs → n ≡ at + length vs
    → take at xs ≡ rows f rs → take n ys ≡ rows f (rs ++ (r ∷ []))
rows_put f rs r xs ys vs at n e g h k so = rw (e, take_put xs vs at n h k, so, g) (sym (rows_more f rs r))

last_more : (s : Slices) (rs : List Reply) (r : Reply) → last_slices s (rs ++ (r ∷ [])) ≡ r.slices
unfolding last_slices
last_more s [] r = refl
last_more s (q ∷ rs) r = last_more q.slices rs r

length_decoded : (n : ℕ) (calls tapes : List ℕ) → length (decoded (words_of n calls) tapes) ≡ n
unfolding decoded words_of
length_decoded zero calls tapes = refl
length_decoded (suc n) calls tapes = ap suc (length_decoded n (drop 6 calls) (drop (words_first calls).tape tapes))

-- ---- what the form says

-- the room for what is recorded of count calls, and that they pass
record Formed (calls tapes : List ℕ) (b : Buffers) (count : ℕ) : Type 0 where
  answers_long : length b.answers ≡ count * 4
  history_long : length b.history ≡ count * both_slices b
  passes : calls_pass (work_of (length b.work) (length b.cells)) (words_of count calls) (length tapes) ≡ true

formed : (calls tapes : List ℕ) (b : Buffers) → well_formed calls tapes b ≡ true → Formed calls tapes b (count_of calls)
unfolding well_formed
formed calls tapes b e =
    let n = count_of calls in
    let words = eqb (length calls) (n * 6) in
    let answers = eqb (length b.answers) (n * 4) in
    let history = eqb (length b.history) (n * both_slices b) in
    let pass = calls_pass (work_of (length b.work) (length b.cells)) (words_of n calls) (length tapes) in
    let e₁ = and_second words (answers && (history && pass)) e in
    let e₂ = and_second answers (history && pass) e₁ in
    record {
      answers_long = eqb-true (length b.answers) (n * 4) (and_first answers (history && pass) e₁);
      history_long = eqb-true (length b.history) (n * both_slices b) (and_first history pass e₂);
      passes = and_second history pass e₂;
    }

-- a call that passes, and those after it
record Passing (there : Work) (w : Words) (ws : List Words) (left : ℕ) : Type 0 where
  small : w.work.u16_cells ≤ there.u16_cells
  wide : w.work.f64_cells ≤ there.f64_cells
  tape : w.tape ≤ left
  others : calls_pass there ws (left - w.tape) ≡ true

passing : (there : Work) (w : Words) (ws : List Words) (left : ℕ) → calls_pass there (w ∷ ws) left ≡ true → Passing there w ws left
unfolding calls_pass call_passes
passing there w ws left e =
    let small = leb w.work.u16_cells there.u16_cells in
    let wide = leb w.work.f64_cells there.f64_cells in
    let tape = leb w.tape left in
    let others = calls_pass there ws (left - w.tape) in
    let cells = and_second (kind_passes w) (small && wide) (and_first (kind_passes w && (small && wide)) (tape && others) e) in
    let e₁ = and_second (kind_passes w && (small && wide)) (tape && others) e in
    record {
      small = leb-true w.work.u16_cells there.u16_cells (and_first small wide cells);
      wide = leb-true w.work.f64_cells there.f64_cells (and_second small wide cells);
      tape = leb-true w.tape left (and_first tape others e₁);
      others = and_second tape others e₁;
    }

-- ---- `run_all`

-- what is asked for from call i on
abbrev words_from : ℕ → List (List ℕ) → List Words
words_from i words = map words_first (drop i words)

-- i calls are run and recorded, and so many tapes are left
pub record Running (p : Problem) (words : List (List ℕ)) (tapes : List ℕ) (before after : Buffers) (left : List ℕ) (i : ℕ) : Type 0 where
  pub within : i ≤ length words
  answers_long : length before.answers ≡ length words * 4
  history_long : length before.history ≡ length words * both_slices before
  done : List Reply
  number : length done ≡ i
  by_run : run p (plan_slices before) (decoded (map words_first words) tapes) ≡ done ++ run p (plan_slices after) (decoded (words_from i words) left)
  answers_so : take (i * 4) after.answers ≡ rows answer_row done
  history_so : take (i * both_slices before) after.history ≡ rows slices_row done
  readable : All (Readable (length before.lengths) (length before.stops)) done
  last : plan_slices after ≡ last_slices (plan_slices before) done
  passes : calls_pass (work_of (length before.work) (length before.cells)) (words_from i words) (length left) ≡ true

module _ (p : Problem) (words : List (List ℕ)) (tapes : List ℕ) (before : Buffers) where
  module _ (calls : List ℕ) (e : words ≡ first_chunks 6 (count_of calls) calls) (n : length words ≡ count_of calls) (h : well_formed calls tapes before ≡ true) where
    words_are : map words_first words ≡ words_of (count_of calls) calls
    words_are = rw e (words_rows (count_of calls) calls)

    pub running_start : Running p words tapes before before tapes 0
    unfolding rows last_slices
    running_start =
        let f = formed calls tapes before h in
        record {
          within = omega arith;
          answers_long = rw n f.answers_long;
          history_long = rw n f.history_long;
          done = [];
          number = refl;
          by_run = refl;
          answers_so = refl;
          history_so = rw (zero-mul (both_slices before));
          readable = all_nil;
          last = refl;
          passes = rw words_are f.passes;
        }

  module _ (after : Buffers) (k : AsLong before after) (left : List ℕ) (i : ℕ) (r : Running p words tapes before after left i) where
    same_both : both_slices after ≡ both_slices before
    same_both = rw (k.lengths, k.stops)

    module _ (h : i < length words) (w : Words) (ew : w ≡ words_first (get_or words i [])) where
      first_words : words_from i words ≡ w ∷ words_from (i + 1) words
      first_words = rw (add-one i, drop-cons words i [] h, ew)

      pass : Passing (work_of (length before.work) (length before.cells)) w (words_from (i + 1) words) (length left)
      pass = passing _ w _ (length left) (rw first_words at r.passes)

      -- the rows of one call fit
      row_room : (m : ℕ) → i * m + m ≤ length words * m
      row_room m = let g : i + 1 ≤ length words = omega arith in let j : (i + 1) * m ≤ length words * m = mul-le-mul_right m g in omega (arith, j, add-mul i 1 m, one-mul m)

      pub running_next : Next i w left after
      running_next =
          let a = pass in
          record {
            tape = a.tape;
            small = rw k.work a.small;
            wide = rw k.cells a.wide;
            answer = omega (arith, r.answers_long, k.answers);
            slices = rw (same_both, k.history, r.history_long) (row_room (both_slices before));
          }

      module _ (next : List ℕ) (now : Buffers) (x : Recorded i w p left next after now) (l : AsLong after now) where
        one : Reply
        one = reply_to w p left after

        left_is : run p (plan_slices after) (decoded (words_from i words) left) ≡ one ∷ run p (plan_slices now) (decoded (words_from (i + 1) words) next)
        unfolding run decoded one
        left_is = rw (first_words, ← x.tape, x.slices)

        one_readable : Readable (length before.lengths) (length before.stops) one
        unfolding one
        one_readable =
            record {
              lengths_long = ap (λ (s : Slices). length s.lengths) (sym x.slices) ∙ l.lengths ∙ k.lengths;
              stops_long = ap (λ (s : Slices). length s.stops) (sym x.slices) ∙ l.stops ∙ k.stops;
              number = call_number p (plan_slices after) (call_of w left);
            }

        slices_are : now.lengths ++ now.stops ≡ slices_row one
        unfolding one
        slices_are = ap (λ (s : Slices). s.lengths ++ s.stops) x.slices

        slices_long : length (now.lengths ++ now.stops) ≡ both_slices before
        slices_long = rw (length-append, l.lengths, l.stops, k.lengths, k.stops)

        pub running_more : Running p words tapes before now next (i + 1)
        unfolding one
        running_more =
            let a = pass in
            let n = running_next in
            let b = both_slices before in
            let room : i * b + b ≤ length words * b = row_room b in
            let here : i * b ≤ length after.history = omega (arith, room, k.history, r.history_long) in
            let next_row : (i + 1) * b ≡ i * b + length (now.lengths ++ now.stops) = rw slices_long (omega (arith, add-mul i 1 b, one-mul b)) in
            let put-here : now.history ≡ put after.history (i * b) (now.lengths ++ now.stops) = rw (same_both) at x.history in
            let fewer : length next ≡ length left - w.tape = rw x.tape (length-drop w.tape left) in
            record {
              within = omega arith;
              answers_long = r.answers_long;
              history_long = r.history_long;
              done = r.done ++ (one ∷ []);
              number = rw length-append (omega (arith, r.number));
              by_run = r.by_run ∙ rw (left_is, append_assoc r.done (one ∷ []) (run p (plan_slices now) (decoded (words_from (i + 1) words) next)));
              answers_so = rows_put answer_row r.done one after.answers now.answers _ (i * 4) ((i + 1) * 4) x.answers refl
                  (omega (arith, n.answer)) (rw (length_answer one.answer) (omega arith)) r.answers_so;
              history_so = rows_put slices_row r.done one after.history now.history _ (i * b) ((i + 1) * b) put-here slices_are here next_row r.history_so;
              readable = all_append r.readable (all_cons one_readable all_nil);
              last = x.slices ∙ sym (last_more (plan_slices before) r.done one);
              passes = rw fewer a.others;
            }

    module _ (g : length words ≤ i) where
      nothing_left : run p (plan_slices after) (decoded (words_from i words) left) ≡ []
      unfolding run decoded
      nothing_left = rw (drop_all i words g)

      pub running_end : (calls : List ℕ) → words ≡ first_chunks 6 (count_of calls) calls → length words ≡ count_of calls → well_formed calls tapes before ≡ true
          → AllRun (length words) p calls tapes before after
      running_end calls e n h =
          let j : i ≡ length words = omega (arith, r.within) in
          let none_left : run p (plan_slices before) (decoded (map words_first words) tapes) ≡ r.done = r.by_run ∙ rw nothing_left (append-nil r.done) in
          let answers : after.answers ≡ rows answer_row r.done =
          sym (take_all (i * 4) after.answers (omega (arith, k.answers, r.answers_long))) ∙ r.answers_so in
          let history : after.history ≡ rows slices_row r.done =
          sym (take_all (i * both_slices before) after.history (rw (j, k.history, r.history_long) (le_refl (length words * both_slices before)))) ∙ r.history_so in
          let replies : replies_in (length words) after ≡ r.done =
          rw (k.lengths, k.stops, answers, history, ← j, ← r.number) (recorded_rows (length before.lengths) (length before.stops) r.readable) in
          let all : run p (plan_slices before) (calls_in calls tapes) ≡ replies_in (length words) after = rw (words_are calls e n h) at none_left ∙ sym replies in
          record {
            formed = h;
            count = n ∙ sym (length_decoded (count_of calls) calls tapes);
            claim = subst (λ (rs : List Reply). Claim p (plan_slices before) (calls_in calls tapes) rs) all (demand_3 p (plan_slices before) (calls_in calls tapes));
            plain = answers ∙ ap (rows answer_row) (sym replies);
            last = r.last ∙ ap (last_slices (plan_slices before)) (sym replies);
          }

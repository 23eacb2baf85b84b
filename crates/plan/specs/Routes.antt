-- One route changed: a stop put in, a stop taken out, the route replaced, the route taken out. For each what becomes of the lengths, of the flat
-- stops, of the number of stops, of how often a place occurs and of a property of every route; last, of the two slices.
-- Assumes nothing.
use Rattle.std.specs.Prelude.{◌≡◌, ℕ, zero, suc, ◌+◌, ◌-◌, ◌<◌, ◌≤◌, List, [], ◌∷◌, ◌++◌, length, take, drop, ◌≢◌, slice_index, slice_set, refl}
use Rattle.std.proofs.Common.{ap, sym, ◌∙◌, append_assoc, le_of_suc-le-suc, not-suc-le-zero, add_assoc, zero-add, add-suc, arith, length-append, drop_at}
use Rattle.std.proofs.Math.ListN.{length-set}
use Rattle.std.proofs.lemmas.List.{length-map, take-append-le, drop-append-le}
use Rattle.std.proofs.Math.Seq.{take-append-add, drop-append-add, get_or-set_same, get_or-set_other}
use Rattle.cell_exchange.specs.laws.All.{All, all_set}
use Rattle.cell_exchange.specs.laws.Edits.{insert_at, erase, cut, length_insert_at, length_erase}
use Rattle.cell_exchange.specs.laws.Counts.{count, count_append, count_insert_at, count_erase}
use Rattle.plan.specs.Plan.{Plan, route, split, flat, lengths_of, total, offset, put_in, take_out, occurs, Holds, HasPosition, HasStop}
use Rattle.plan.specs.Slices.{split_is, lengths_split, flat_split, length_split, length_route, lengths_get, lengths_take, lengths_drop, lengths_append, total_lengths, total_set, total_erase, route_within}

-- ---- route k replaced by r

pub lengths_set : (plan : Plan) (k : ℕ) (r : List ℕ) → lengths_of (slice_set plan k r) ≡ slice_set (lengths_of plan) k (length r)
lengths_set [] k r = refl
lengths_set (q ∷ plan) zero r = refl
lengths_set (q ∷ plan) (suc k) r = ap (λ (l : List ℕ). length q ∷ l) (lengths_set plan k r)

pub flat_set : (plan : Plan) (k : ℕ) (r : List ℕ) → k < length plan
    → flat (slice_set plan k r) ≡ take (offset (lengths_of plan) k) (flat plan) ++ (r ++ drop (offset (lengths_of plan) k + length (route k plan)) (flat plan))
unfolding flat total
flat_set [] k r h = absurd (not-suc-le-zero h)
flat_set (q ∷ plan) zero r h = rw (zero-add, drop_at q (flat plan) (length q) refl)
flat_set (q ∷ plan) (suc k) r h =
    rw (flat_set plan k r (le_of_suc-le-suc h)) (simp (add_assoc, take-append-add, drop-append-add, append_assoc))

pub number_set : (plan : Plan) (k : ℕ) (r : List ℕ) → k < length plan
    → length (flat (slice_set plan k r)) + length (route k plan) ≡ length (flat plan) + length r
unfolding flat
number_set [] k r h = absurd (not-suc-le-zero h)
number_set (q ∷ plan) zero r h = simp length-append (omega arith)
number_set (q ∷ plan) (suc k) r h = simp length-append (omega (arith, number_set plan k r (le_of_suc-le-suc h)))

pub occurs_set : (x : ℕ) (plan : Plan) (k : ℕ) (r : List ℕ) → k < length plan → occurs x (slice_set plan k r) + count x (route k plan) ≡ occurs x plan + count x r
unfolding flat
occurs_set x [] k r h = absurd (not-suc-le-zero h)
occurs_set x (q ∷ plan) zero r h = omega (arith, count_append x r (flat plan), count_append x q (flat plan))
occurs_set x (q ∷ plan) (suc k) r h =
    omega (arith, count_append x q (flat (slice_set plan k r)), count_append x q (flat plan), occurs_set x plan k r (le_of_suc-le-suc h))

-- ---- a stop put in

module _ (k pos c : ℕ) (plan : Plan) where
  pub length_put_in : length (put_in k pos c plan) ≡ length plan
  unfolding put_in
  length_put_in = length-set plan k (insert_at pos c (route k plan))

  pub route_put_in : k < length plan → route k (put_in k pos c plan) ≡ insert_at pos c (route k plan)
  unfolding put_in
  route_put_in h = get_or-set_same plan k (insert_at pos c (route k plan)) [] h

  pub longer_put_in : k < length plan → pos ≤ length (route k plan) → length (route k (put_in k pos c plan)) ≡ length (route k plan) + 1
  longer_put_in h g = ap length (route_put_in h) ∙ length_insert_at pos c (route k plan) g

  pub stop_put_in : HasPosition plan k pos → HasStop (put_in k pos c plan) k pos
  stop_put_in g =
      record { there = rw length_put_in g.there; within = omega (arith, g.within, longer_put_in g.there g.within) }

  pub other_put_in : (j : ℕ) → (j ≢ k) → route j (put_in k pos c plan) ≡ route j plan
  unfolding put_in
  other_put_in j h = get_or-set_other plan k j (insert_at pos c (route k plan)) [] h

  pub lengths_put_in : pos ≤ length (route k plan) → lengths_of (put_in k pos c plan) ≡ slice_set (lengths_of plan) k (length (route k plan) + 1)
  unfolding put_in
  lengths_put_in g = rw (lengths_set plan k (insert_at pos c (route k plan)), length_insert_at pos c (route k plan) g)

  pub number_put_in : k < length plan → pos ≤ length (route k plan) → length (flat (put_in k pos c plan)) ≡ length (flat plan) + 1
  unfolding put_in
  number_put_in h g = omega (arith, number_set plan k (insert_at pos c (route k plan)) h, length_insert_at pos c (route k plan) g)

  -- the plan has c once more
  pub occurs_put_in : (x : ℕ) → k < length plan → occurs x (put_in k pos c plan) ≡ count x (c ∷ flat plan)
  unfolding put_in count
  occurs_put_in x h = omega (arith, occurs_set x plan k (insert_at pos c (route k plan)) h, count_insert_at x pos c (route k plan))

  pub all_put_in : {P : List ℕ → Type 0} → P (insert_at pos c (route k plan)) → All P plan → All P (put_in k pos c plan)
  unfolding put_in
  all_put_in p a = all_set k a p

-- among the flat stops it goes in at pos from where its route begins
pub flat_put_in : (k pos c : ℕ) (plan : Plan) → k < length plan → pos ≤ length (route k plan)
    → flat (put_in k pos c plan) ≡ insert_at (offset (lengths_of plan) k + pos) c (flat plan)
unfolding put_in insert_at flat total
flat_put_in k pos c [] h g = absurd (not-suc-le-zero h)
flat_put_in zero pos c (r ∷ rs) h g =
    rw (zero-add, take-append-le pos r (flat rs) g, drop-append-le pos r (flat rs) g) (simp append_assoc)
flat_put_in (suc k) pos c (r ∷ rs) h g =
    rw (flat_put_in k pos c rs (le_of_suc-le-suc h) g) (simp (add_assoc, take-append-add, drop-append-add, append_assoc))

-- ---- a stop taken out

module _ (k pos : ℕ) (plan : Plan) where
  pub length_take_out : length (take_out k pos plan) ≡ length plan
  unfolding take_out
  length_take_out = length-set plan k (erase pos (route k plan))

  pub route_take_out : k < length plan → route k (take_out k pos plan) ≡ erase pos (route k plan)
  unfolding take_out
  route_take_out h = get_or-set_same plan k (erase pos (route k plan)) [] h

  pub shorter_take_out : k < length plan → pos < length (route k plan) → length (route k (take_out k pos plan)) + 1 ≡ length (route k plan)
  shorter_take_out h g = ap (λ (r : List ℕ). length r + 1) (route_take_out h) ∙ omega (arith, length_erase pos (route k plan) g)

  -- its position is still there, and so is each stop before it
  pub position_take_out : HasStop plan k pos → HasPosition (take_out k pos plan) k pos
  position_take_out g =
      record { there = rw length_take_out g.there; within = omega (arith, g.within, shorter_take_out g.there g.within) }

  pub stop_take_out : (i : ℕ) → i < pos → HasStop plan k pos → HasStop (take_out k pos plan) k i
  stop_take_out i h g =
      record { there = rw length_take_out g.there; within = omega (arith, g.within, shorter_take_out g.there g.within) }

  pub other_take_out : (j : ℕ) → (j ≢ k) → route j (take_out k pos plan) ≡ route j plan
  unfolding take_out
  other_take_out j h = get_or-set_other plan k j (erase pos (route k plan)) [] h

  pub lengths_take_out : pos < length (route k plan) → lengths_of (take_out k pos plan) ≡ slice_set (lengths_of plan) k (length (route k plan) - 1)
  unfolding take_out
  lengths_take_out g =
      let l : length (erase pos (route k plan)) ≡ length (route k plan) - 1 = omega (arith, length_erase pos (route k plan) g) in
      rw (lengths_set plan k (erase pos (route k plan)), l)

  pub number_take_out : k < length plan → pos < length (route k plan) → length (flat (take_out k pos plan)) + 1 ≡ length (flat plan)
  unfolding take_out
  number_take_out h g = omega (arith, number_set plan k (erase pos (route k plan)) h, length_erase pos (route k plan) g)

  -- the plan has the stop once less
  pub occurs_take_out : (x : ℕ) → k < length plan → pos < length (route k plan) → count x (slice_index (route k plan) pos ∷ flat (take_out k pos plan)) ≡ occurs x plan
  unfolding take_out count
  occurs_take_out x h g = omega (arith, occurs_set x plan k (erase pos (route k plan)) h, count_erase x pos (route k plan) g)

  pub all_take_out : {P : List ℕ → Type 0} → P (erase pos (route k plan)) → All P plan → All P (take_out k pos plan)
  unfolding take_out
  all_take_out p a = all_set k a p

pub flat_take_out : (k pos : ℕ) (plan : Plan) → k < length plan → pos < length (route k plan)
    → flat (take_out k pos plan) ≡ erase (offset (lengths_of plan) k + pos) (flat plan)
unfolding take_out erase flat total
flat_take_out k pos [] h g = absurd (not-suc-le-zero h)
flat_take_out zero pos (r ∷ rs) h g =
    rw (zero-add, take-append-le pos r (flat rs) (omega arith), drop-append-le (suc pos) r (flat rs) g) (simp append_assoc)
flat_take_out (suc k) pos (r ∷ rs) h g =
    rw (flat_take_out k pos rs (le_of_suc-le-suc h) g, add_assoc (length r) (offset (lengths_of rs) k) pos, ← add-suc (length r) (offset (lengths_of rs) k + pos), take-append-add, drop-append-add, append_assoc)

-- ---- route k taken out

pub lengths_erase : (plan : Plan) (k : ℕ) → lengths_of (erase k plan) ≡ erase k (lengths_of plan)
unfolding erase
lengths_erase plan k = rw (lengths_append (take k plan) (drop (suc k) plan), lengths_take plan k, lengths_drop plan (suc k))

pub flat_erase : (k : ℕ) (plan : Plan) → k < length plan → flat (erase k plan) ≡ cut (offset (lengths_of plan) k) (length (route k plan)) (flat plan)
unfolding erase cut flat total
flat_erase k [] h = absurd (not-suc-le-zero h)
flat_erase zero (r ∷ rs) h = rw (zero-add, drop_at r (flat rs) (length r) refl)
flat_erase (suc k) (r ∷ rs) h =
    rw (flat_erase k rs (le_of_suc-le-suc h)) (simp (add_assoc, take-append-add, drop-append-add, append_assoc))

pub number_erase : (k : ℕ) (plan : Plan) → k < length plan → length (flat (erase k plan)) + length (route k plan) ≡ length (flat plan)
number_erase k plan h =
    omega (arith, total_lengths (erase k plan), ap total (lengths_erase plan k), total_erase (lengths_of plan) k (rw length-map h), lengths_get plan k, total_lengths plan)

pub occurs_erase : (x k : ℕ) (plan : Plan) → k < length plan → count x (route k plan) + occurs x (erase k plan) ≡ occurs x plan
unfolding erase flat
occurs_erase x k [] h = absurd (not-suc-le-zero h)
occurs_erase x zero (r ∷ rs) h = sym (count_append x r (flat rs))
occurs_erase x (suc k) (r ∷ rs) h =
    omega (arith, count_append x r (flat (erase k rs)), count_append x r (flat rs), occurs_erase x k rs (le_of_suc-le-suc h))

-- ---- the two slices

module _ (ls s : List ℕ) (k : ℕ) (h : k < length ls) (u : total ls ≤ length s) where
  in_split : k < length (split ls s)
  in_split = rw length_split h

  own_lengths : lengths_of (split ls s) ≡ ls
  own_lengths = lengths_split ls s u

  own_length : length (route k (split ls s)) ≡ slice_index ls k
  own_length = length_route ls s u k

  -- a stop goes in, and every later one of those in use moves one place right
  pub put_in_slices : (pos c : ℕ) → pos ≤ slice_index ls k
      → Holds (put_in k pos c (split ls s)) (total ls + 1) (slice_set ls k (slice_index ls k + 1)) (insert_at (offset ls k + pos) c (take (total ls) s) ++ drop (total ls + 1) s)
  put_in_slices pos c g =
      let plan = split ls s in
      let p : pos ≤ length (route k plan) = rw own_length g in
      let l = rw (own_lengths, own_length) at (lengths_put_in k pos c plan p) in
      let f = rw (own_lengths, flat_split ls s) at (flat_put_in k pos c plan in_split p) in
      record {
        routes = split_is (put_in k pos c plan) (drop (total ls + 1) s) (sym l) (rw f);
        sum = omega (arith, total_set ls k (slice_index ls k + 1) h);
      }

  -- a stop is taken out, and every later one of those in use moves one place left
  pub take_out_slices : (pos : ℕ) → pos < slice_index ls k
      → Holds (take_out k pos (split ls s)) (total ls - 1) (slice_set ls k (slice_index ls k - 1)) (erase (offset ls k + pos) (take (total ls) s) ++ drop (total ls - 1) s)
  take_out_slices pos g =
      let plan = split ls s in
      let p : pos < length (route k plan) = rw own_length g in
      let l = rw (own_lengths, own_length) at (lengths_take_out k pos plan p) in
      let f = rw (own_lengths, flat_split ls s) at (flat_take_out k pos plan in_split p) in
      record {
        routes = split_is (take_out k pos plan) (drop (total ls - 1) s) (sym l) (rw f);
        sum = omega (arith, total_set ls k (slice_index ls k - 1) h, route_within ls k h);
      }

  -- a route is taken out, and every later stop of those in use moves left by its length
  pub erase_slices : Holds (erase k (split ls s)) (total ls - slice_index ls k) (erase k ls) (cut (offset ls k) (slice_index ls k) (take (total ls) s) ++ drop (total ls - slice_index ls k) s)
  erase_slices =
      let plan = split ls s in
      let l = rw own_lengths at (lengths_erase plan k) in
      let f = rw (own_lengths, own_length, flat_split ls s) at (flat_erase k plan in_split) in
      record {
        routes = split_is (erase k plan) (drop (total ls - slice_index ls k) s) (sym l) (rw f);
        sum = omega (arith, total_erase ls k h);
      }

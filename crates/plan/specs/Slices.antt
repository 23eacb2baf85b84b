-- The two slices and the list of routes are one: `split` and `flat` are inverse to each other, and route k is a part of the stops.
-- Assumes nothing.
use Rattle.std.specs.Prelude.{◌≡◌, ℕ, zero, suc, ◌+◌, ◌-◌, ◌<◌, ◌≤◌, List, [], ◌∷◌, ◌++◌, length, take, drop, slice_index, slice_index_or, slice_range, slice_set, sum, refl}
use Rattle.std.proofs.Common.{zero-le, ap, sym, ◌∙◌, subst, append_assoc, append-nil, le_of_suc-le-suc, not-suc-le-zero, le_refl, add-one, arith, length-append, length-drop, take-append-drop, take_all, length-take-le, take-add, take-take, drop-drop, get_or-take, get_or-drop}
use Rattle.std.proofs.lemmas.List.{length-take}
use Rattle.std.proofs.lemmas.List.Sums.{sum_by-cons}
use Rattle.std.proofs.Math.Seq.{take-append_seam, drop-append_seam}
use Rattle.cell_exchange.specs.laws.All.{All, all_nil, all_cons, all_append, all_take, all_drop}
use Rattle.cell_exchange.specs.laws.Edits.{erase}
use Rattle.plan.specs.Plan.{Plan, route, split, flat, lengths_of, total, offset, Holds, Lent, HasPosition, HasStop}

-- ---- there and back

-- A plan in its own slices, with free cells behind the stops, is the plan.
pub split_flat : (plan : Plan) (free : List ℕ) → split (lengths_of plan) (flat plan ++ free) ≡ plan
unfolding split flat
split_flat [] free = refl
split_flat (r ∷ rs) free =
    rw (append_assoc r (flat rs) free, take-append_seam r (flat rs ++ free), drop-append_seam r (flat rs ++ free), split_flat rs free)

pub split_own : (plan : Plan) → split (lengths_of plan) (flat plan) ≡ plan
split_own plan = ap (λ (s : List ℕ). split (lengths_of plan) s) (sym (append-nil (flat plan))) ∙ split_flat plan []

-- The slices of what two slices hold are those slices.
pub lengths_split : (ls s : List ℕ) → total ls ≤ length s → lengths_of (split ls s) ≡ ls
unfolding split total
lengths_split [] s h = refl
lengths_split (n ∷ ns) s h =
    rw (length-take-le n s (omega arith), lengths_split ns (drop n s) (simp length-drop (omega arith)))

pub flat_split : (ls s : List ℕ) → flat (split ls s) ≡ take (total ls) s
unfolding split flat total
flat_split [] s = refl
flat_split (n ∷ ns) s = rw (flat_split ns (drop n s), take-add n (total ns) s)

pub flat_split_all : (ls s : List ℕ) → total ls ≡ length s → flat (split ls s) ≡ s
flat_split_all ls s h = flat_split ls s ∙ take_all (total ls) s (omega arith)

-- Two slices hold the plan whose lengths the first is and with whose stops the second begins.
pub split_is : (plan : Plan) {ls s : List ℕ} (free : List ℕ) → ls ≡ lengths_of plan → s ≡ flat plan ++ free → split ls s ≡ plan
split_is plan free e f = rw (e, f) (split_flat plan free)

-- ---- lengths and sums

pub length_split : (ls s : List ℕ) → length (split ls s) ≡ length ls
unfolding split
length_split [] s = refl
length_split (n ∷ ns) s = ap suc (length_split ns (drop n s))

pub total_lengths : (plan : Plan) → total (lengths_of plan) ≡ length (flat plan)
unfolding flat total
total_lengths [] = refl
total_lengths (r ∷ rs) = rw (length-append, total_lengths rs)

pub lengths_take : (plan : Plan) (k : ℕ) → lengths_of (take k plan) ≡ take k (lengths_of plan)
lengths_take plan zero = refl
lengths_take [] (suc k) = refl
lengths_take (r ∷ rs) (suc k) = ap (λ (l : List ℕ). length r ∷ l) (lengths_take rs k)

pub lengths_drop : (plan : Plan) (k : ℕ) → lengths_of (drop k plan) ≡ drop k (lengths_of plan)
lengths_drop plan zero = refl
lengths_drop [] (suc k) = refl
lengths_drop (r ∷ rs) (suc k) = lengths_drop rs k

pub lengths_append : (plan more : Plan) → lengths_of (plan ++ more) ≡ lengths_of plan ++ lengths_of more
lengths_append [] more = refl
lengths_append (r ∷ rs) more = ap (λ (l : List ℕ). length r ∷ l) (lengths_append rs more)

pub lengths_get : (plan : Plan) (k : ℕ) → slice_index (lengths_of plan) k ≡ length (route k plan)
lengths_get [] k = refl
lengths_get (r ∷ rs) zero = refl
lengths_get (r ∷ rs) (suc k) = lengths_get rs k

pub split_append : (ls ms s : List ℕ) → split (ls ++ ms) s ≡ split ls s ++ split ms (drop (total ls) s)
unfolding split total
split_append [] ms s = refl
split_append (n ∷ ns) ms s = rw (split_append ns ms (drop n s), drop-drop (total ns) n s)

pub flat_append : (plan more : Plan) → flat (plan ++ more) ≡ flat plan ++ flat more
unfolding flat
flat_append [] more = refl
flat_append (r ∷ rs) more = rw (flat_append rs more, append_assoc)

-- the lengths' sum in std's word
pub sum_total : (ls : List ℕ) → sum ls ≡ total ls
unfolding total
sum_total [] = refl
sum_total (n ∷ ns) = sum_by-cons (λ (k : ℕ). k) n ns ∙ ap (λ (k : ℕ). n + k) (sum_total ns)

pub total_append : (ls ms : List ℕ) → total (ls ++ ms) ≡ total ls + total ms
unfolding total
total_append [] ms = omega arith
total_append (n ∷ ns) ms = omega (arith, total_append ns ms)

pub total_set : (ls : List ℕ) (k n : ℕ) → k < length ls → total (slice_set ls k n) + slice_index ls k ≡ total ls + n
unfolding total
total_set [] k n h = absurd (not-suc-le-zero h)
total_set (x ∷ xs) zero n h = omega arith
total_set (x ∷ xs) (suc k) n h = omega (arith, total_set xs k n (le_of_suc-le-suc h))

pub total_erase : (ls : List ℕ) (k : ℕ) → k < length ls → total (erase k ls) + slice_index ls k ≡ total ls
unfolding total erase
total_erase [] k h = absurd (not-suc-le-zero h)
total_erase (x ∷ xs) zero h = omega arith
total_erase (x ∷ xs) (suc k) h = omega (arith, total_erase xs k (le_of_suc-le-suc h))

-- ---- where a route lies

pub offset_more : (ls : List ℕ) (k : ℕ) → k < length ls → offset ls (k + 1) ≡ offset ls k + slice_index ls k
unfolding total
offset_more ls k h = rw (add-one k) (go ls k h)
  where
    go : (ls : List ℕ) (k : ℕ) → k < length ls → total (take (suc k) ls) ≡ total (take k ls) + slice_index ls k
    go [] k h = absurd (not-suc-le-zero h)
    go (x ∷ xs) zero h = omega arith
    go (x ∷ xs) (suc k) h = omega (arith, go xs k (le_of_suc-le-suc h))

pub offset_within : (ls : List ℕ) (k : ℕ) → offset ls k ≤ total ls
unfolding total
offset_within ls zero = zero-le
offset_within [] (suc k) = zero-le
offset_within (x ∷ xs) (suc k) = omega (arith, offset_within xs k)

pub offset_all : (ls : List ℕ) → offset ls (length ls) ≡ total ls
offset_all ls = ap total (take_all (length ls) ls (le_refl (length ls)))

-- a route ends within what is in use
pub route_within : (ls : List ℕ) (k : ℕ) → k < length ls → offset ls k + slice_index ls k ≤ total ls
route_within ls k h = subst (λ (n : ℕ). n ≤ total ls) (offset_more ls k h) (offset_within ls (k + 1))

-- a route ends before a later one begins
pub route_before : (ls : List ℕ) (a b : ℕ) → a < b → b ≤ length ls → offset ls a + slice_index ls a ≤ offset ls b
route_before ls a b h k =
    let n : length (take b ls) ≡ b = length-take-le b ls k in
    rw (take-take a b ls (omega arith), get_or-take b ls a 0 h) at (route_within (take b ls) a (omega arith))

-- route k is a part of the stops
pub route_split : (ls s : List ℕ) (k : ℕ) → route k (split ls s) ≡ take (slice_index ls k) (drop (offset ls k) s)
unfolding split total
route_split [] s k = refl
route_split (n ∷ ns) s zero = refl
route_split (n ∷ ns) s (suc k) = rw (route_split ns (drop n s) k, drop-drop (offset ns k) n s)

-- the part from `at` to `end`, as `&stops[at..end]` reads
pub route_part : (ls s : List ℕ) (k at end : ℕ) → at ≡ offset ls k → end ≡ at + slice_index ls k → slice_range s at end ≡ route k (split ls s)
route_part ls s k at end e f =
    let n : end - at ≡ slice_index_or ls k 0 = omega arith in
    rw (n, e) (sym (route_split ls s k))

-- a route is no longer than the stops
pub route_short : (ls s : List ℕ) (k : ℕ) {r : List ℕ} → r ≡ route k (split ls s) → length r ≤ length s
route_short ls s k e = rw (e, route_split, length-take, length-drop) (omega arith)

module _ (ls s : List ℕ) (u : total ls ≤ length s) where
  pub length_route : (k : ℕ) → length (route k (split ls s)) ≡ slice_index ls k
  length_route k = sym (lengths_get (split ls s) k) ∙ ap (λ (l : List ℕ). slice_index l k) (lengths_split ls s u)

  -- the stop at pos of route k
  pub stop_split : (k pos : ℕ) → pos < slice_index ls k → slice_index s (offset ls k + pos) ≡ slice_index (route k (split ls s)) pos
  stop_split k pos h =
      rw (route_split ls s k, get_or-take (slice_index ls k) (drop (offset ls k) s) pos 0 h, get_or-drop (offset ls k) s pos 0)

  -- what is in use of the stops, and the free cells behind it
  pub flat_free : flat (split ls s) ++ drop (total ls) s ≡ s
  flat_free = rw (flat_split ls s) (take-append-drop (total ls) s)

  pub holds_self : Holds (split ls s) (total ls) ls s
  holds_self = record { routes = refl; sum = refl }

-- a position or a stop of the plan, by the lengths
module _ (ls s : List ℕ) (l : Lent ls s) (k pos : ℕ) where
  pub position_within : HasPosition (split ls s) k pos → pos ≤ slice_index ls k
  position_within g = rw (length_route ls s l.inside k) at g.within

  pub stop_within : HasStop (split ls s) k pos → pos < slice_index ls k
  stop_within g = rw (length_route ls s l.inside k) at g.within

  pub has_position : k < length ls → pos ≤ slice_index ls k → HasPosition (split ls s) k pos
  has_position h g = record { there = rw length_split h; within = rw (length_route ls s l.inside k) g }

  pub has_stop : k < length ls → pos < slice_index ls k → HasStop (split ls s) k pos
  has_stop h g = record { there = rw length_split h; within = rw (length_route ls s l.inside k) g }

module _ (ls s : List ℕ) (k pos : ℕ) where
  pub position_route : HasPosition (split ls s) k pos → k < length ls
  position_route g = rw length_split at g.there

  pub stop_route : HasStop (split ls s) k pos → k < length ls
  stop_route g = rw length_split at g.there

-- ---- slices that hold a plan

module _ {plan : Plan} {n : ℕ} {ls s : List ℕ} (h : Holds plan n ls s) (u : n ≤ length s) where
  pub holds_lengths : ls ≡ lengths_of plan
  holds_lengths = sym (lengths_split ls s (omega (arith, h.sum))) ∙ ap lengths_of h.routes

  pub holds_stops : take n s ≡ flat plan
  holds_stops = rw (← h.sum) (sym (flat_split ls s)) ∙ ap flat h.routes

  pub holds_length : (k : ℕ) → slice_index ls k ≡ length (route k plan)
  holds_length k = ap (λ (l : List ℕ). slice_index l k) holds_lengths ∙ lengths_get plan k

  pub holds_number : n ≡ length (flat plan)
  holds_number = sym h.sum ∙ ap total holds_lengths ∙ total_lengths plan

-- what the plan has, the slices have
module _ {plan : Plan} {n : ℕ} {ls s : List ℕ} (h : Holds plan n ls s) {k pos : ℕ} where
  pub held_position : HasPosition plan k pos → HasPosition (split ls s) k pos
  held_position g = rw h.routes g

  pub held_stop : HasStop plan k pos → HasStop (split ls s) k pos
  held_stop g = rw h.routes g

-- with no free cells the slices are those of the plan
pub holds_whole : {plan : Plan} {n : ℕ} {ls s : List ℕ} → Holds plan n ls s → n ≡ length s → s ≡ flat plan
holds_whole {plan} {n} {ls} {s} h e = sym (take_all n s (omega arith)) ∙ holds_stops h (omega arith)

-- ---- a property of every stop

pub all_flat : {P : ℕ → Type 0} {plan : Plan} → All (All P) plan → All P (flat plan)
unfolding flat
all_flat all_nil = all_nil
all_flat (all_cons a b) = all_append a (all_flat b)

pub all_split : {P : ℕ → Type 0} (ls : List ℕ) {s : List ℕ} → All P s → All (All P) (split ls s)
unfolding split
all_split [] a = all_nil
all_split (n ∷ ns) a = all_cons (all_take n a) (all_split ns (all_drop n a))

pub all_routes : {P : ℕ → Type 0} (plan : Plan) → All P (flat plan) → All (All P) plan
all_routes plan a = rw (split_own plan) at (all_split (lengths_of plan) a)

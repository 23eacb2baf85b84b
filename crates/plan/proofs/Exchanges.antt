-- Two routes changed at once: two stops exchanged, or two tails. The routes are any two different ones, in either order. For both what becomes of
-- the routes, the lengths, how often a place occurs, a property of every route, and the two slices; and made twice, either is undone.
-- Assumes nothing.
use Rattle.std.specs.Prelude.{◌≡◌, ℕ, zero, suc, ◌+◌, ◌-◌, ◌<◌, ◌≤◌, List, [], ◌∷◌, ◌++◌, length, take, drop, set, ◌≢◌, slice_index, slice_index_or, slice_set}
use Rattle.std.proofs.Math.Path.{ap, sym}
use Rattle.std.proofs.Common.{◌∙◌, append_assoc, le_of_suc-le-suc, not-suc-le-zero, add_assoc, zero-add, suc-add, arith}
use Rattle.std.proofs.Math.ListN.{length-append, length-set, length-drop, take-append-drop}
use Rattle.std.proofs.lemmas.List.{length-map, set_comm}
use Rattle.std.proofs.Math.Seq.{set-append_left, get_or-set_same, get_or-set_other, set-set, set-get_or, length-take-le, take_at, drop_at}
use Rattle.cell_exchange.specs.laws.All.{All, all_set}
use Rattle.cell_exchange.specs.laws.Exchanges.{swap, length_swap, swap_parts, swap_parts_of, split_at_two, set_two, part}
use Rattle.cell_exchange.specs.laws.Counts.{count, count_append, count_parts, count_set}
use Rattle.plan.specs.Plan.{Plan, route, split, flat, lengths_of, total, offset, exchange_stops, exchange_tails, occurs, Holds, HasPosition, HasStop}
use Rattle.plan.specs.Slices.{split_is, split_own, flat_split_all, lengths_split, flat_split, flat_free, length_split, length_route, lengths_get, lengths_take, total_lengths, total_set, flat_append, route_within, stop_split}
use Rattle.plan.specs.Routes.{lengths_set, number_set, occurs_set}

-- ---- two routes replaced

module _ (plan : Plan) (a b : ℕ) (p q : List ℕ) (d : a ≡ b → ⊥) where
  -- in either order
  pub set_either : set (slice_set plan a p) b q ≡ slice_set (slice_set plan b q) a p
  set_either = set_comm plan a b p q d

  pub route_first : a < length plan → route a (slice_set (slice_set plan a p) b q) ≡ p
  route_first h = get_or-set_other (slice_set plan a p) b a q [] d ∙ get_or-set_same plan a p [] h

  pub route_second : b < length plan → route b (slice_set (slice_set plan a p) b q) ≡ q
  route_second h = get_or-set_same (slice_set plan a p) b q [] (rw length-set h)

  -- what leaves both is what comes into both
  pub occurs_two : (x : ℕ) → a < length plan → b < length plan → count x p + count x q ≡ count x (route a plan) + count x (route b plan)
      → occurs x (slice_set (slice_set plan a p) b q) ≡ occurs x plan
  occurs_two x h k e =
      let o : route b (slice_set plan a p) ≡ route b plan = get_or-set_other plan a b p [] (λ f. d (sym f)) in
      let g : occurs x (slice_set (slice_set plan a p) b q) + count x (route b plan) ≡ occurs x (slice_set plan a p) + count x q =
      rw o at (occurs_set x (slice_set plan a p) b q (rw length-set k)) in
      omega (arith, occurs_set x plan a p h)

  pub number_two : a < length plan → b < length plan → length p + length q ≡ length (route a plan) + length (route b plan)
      → length (flat (slice_set (slice_set plan a p) b q)) ≡ length (flat plan)
  number_two h k e =
      let o : route b (slice_set plan a p) ≡ route b plan = get_or-set_other plan a b p [] (λ f. d (sym f)) in
      let g : length (flat (slice_set (slice_set plan a p) b q)) + length (route b plan) ≡ length (flat (slice_set plan a p)) + length q =
      rw o at (number_set (slice_set plan a p) b q (rw length-set k)) in
      omega (arith, number_set plan a p h)

  -- both put back
  pub set_back : set (slice_set (slice_set (slice_set plan a p) b q) a (route a plan)) b (route b plan) ≡ plan
  set_back =
      rw (set_comm (slice_set plan a p) b a q (route a plan) (λ e. d (sym e)), set-set plan a p (route a plan), set-get_or plan a [], set-set plan b q (route b plan), set-get_or plan b [])

pub other_two : (plan : Plan) (a b : ℕ) (p q : List ℕ) (c : ℕ) → (c ≢ a) → (c ≢ b) → route c (slice_set (slice_set plan a p) b q) ≡ route c plan
other_two plan a b p q c h k = get_or-set_other (slice_set plan a p) b c q [] k ∙ get_or-set_other plan a c p [] h

-- ---- two stops exchanged

module _ (a i b j : ℕ) (plan : Plan) where
  pub length_exchange_stops : length (exchange_stops a i b j plan) ≡ length plan
  unfolding exchange_stops
  length_exchange_stops = simp length-set

  pub all_exchange_stops : {P : List ℕ → Type 0} → P (slice_set (route a plan) i (slice_index (route b plan) j)) → P (slice_set (route b plan) j (slice_index (route a plan) i))
      → All P plan → All P (exchange_stops a i b j plan)
  unfolding exchange_stops
  all_exchange_stops p q all = all_set b (all_set a all p) q

  pub lengths_exchange_stops : (a ≢ b) → lengths_of (exchange_stops a i b j plan) ≡ lengths_of plan
  unfolding exchange_stops
  lengths_exchange_stops d =
      let x = slice_index_or (route b plan) j 0 in
      let y = slice_index_or (route a plan) i 0 in
      let ls = lengths_of plan in
      let first : set ls a (length (slice_set (route a plan) i x)) ≡ ls = rw (length-set (route a plan) i x, ← lengths_get plan a) (set-get_or ls a 0) in
      let second : set ls b (length (slice_set (route b plan) j y)) ≡ ls = rw (length-set (route b plan) j y, ← lengths_get plan b) (set-get_or ls b 0) in
      rw (lengths_set (slice_set plan a (slice_set (route a plan) i x)) b (slice_set (route b plan) j y), lengths_set plan a (slice_set (route a plan) i x), first, second)

  module _ (d : a ≡ b → ⊥) where
    pub exchange_stops_comm : exchange_stops a i b j plan ≡ exchange_stops b j a i plan
    unfolding exchange_stops
    exchange_stops_comm = set_either plan a b (slice_set (route a plan) i (slice_index (route b plan) j)) (slice_set (route b plan) j (slice_index (route a plan) i)) d

    pub occurs_exchange_stops : (x : ℕ) → a < length plan → b < length plan → i < length (route a plan) → j < length (route b plan)
        → occurs x (exchange_stops a i b j plan) ≡ occurs x plan
    unfolding exchange_stops
    occurs_exchange_stops x h k hi hj =
        let u = slice_index_or (route b plan) j 0 in
        let v = slice_index_or (route a plan) i 0 in
        occurs_two plan a b (slice_set (route a plan) i u) (slice_set (route b plan) j v) d x h k (omega (arith, count_set x (route a plan) i u hi, count_set x (route b plan) j v hj))

    pub number_exchange_stops : a < length plan → b < length plan → length (flat (exchange_stops a i b j plan)) ≡ length (flat plan)
    unfolding exchange_stops
    number_exchange_stops h k =
        let u = slice_index_or (route b plan) j 0 in
        let v = slice_index_or (route a plan) i 0 in
        number_two plan a b (slice_set (route a plan) i u) (slice_set (route b plan) j v) d h k (rw (length-set (route a plan) i u, length-set (route b plan) j v))

    module _ (h : a < length plan) (k : b < length plan) where
      pub first_exchange_stops : route a (exchange_stops a i b j plan) ≡ slice_set (route a plan) i (slice_index (route b plan) j)
      unfolding exchange_stops
      first_exchange_stops = route_first plan a b (slice_set (route a plan) i (slice_index (route b plan) j)) (slice_set (route b plan) j (slice_index (route a plan) i)) d h

      pub second_exchange_stops : route b (exchange_stops a i b j plan) ≡ slice_set (route b plan) j (slice_index (route a plan) i)
      unfolding exchange_stops
      second_exchange_stops = route_second plan a b (slice_set (route a plan) i (slice_index (route b plan) j)) (slice_set (route b plan) j (slice_index (route a plan) i)) d k

      -- both are stops of the plan still
      pub first_stop_still : i < length (route a plan) → HasStop (exchange_stops a i b j plan) a i
      first_stop_still g =
          record { there = rw length_exchange_stops h; within = rw (first_exchange_stops, length-set (route a plan) i (slice_index (route b plan) j)) g }

      pub second_stop_still : j < length (route b plan) → HasStop (exchange_stops a i b j plan) b j
      second_stop_still g =
          record { there = rw length_exchange_stops k; within = rw (second_exchange_stops, length-set (route b plan) j (slice_index (route a plan) i)) g }

      pub exchange_stops_twice : i < length (route a plan) → j < length (route b plan) → exchange_stops a i b j (exchange_stops a i b j plan) ≡ plan
      unfolding exchange_stops
      exchange_stops_twice hi hj =
          let ra = route a plan in
          let rb = route b plan in
          let x = slice_index_or rb j 0 in
          let y = slice_index_or ra i 0 in
          rw (
            first_exchange_stops,
            second_exchange_stops,
            get_or-set_same rb j y 0 hj,
            get_or-set_same ra i x 0 hi,
            set-set ra i x y,
            set-set rb j y x,
            set-get_or ra i 0,
            set-get_or rb j 0,
          )
          (set_back plan a b (slice_set ra i x) (slice_set rb j y) d)

-- one stop replaced, among the flat stops
flat_stop : (k pos c : ℕ) (plan : Plan) → k < length plan → pos < length (route k plan)
    → flat (slice_set plan k (slice_set (route k plan) pos c)) ≡ slice_set (flat plan) (offset (lengths_of plan) k + pos) c
unfolding flat total
flat_stop k pos c [] h g = absurd (not-suc-le-zero h)
flat_stop zero pos c (r ∷ rs) h g = rw (zero-add, set-append_left r (flat rs) pos c g)
flat_stop (suc k) pos c (r ∷ rs) h g =
    rw (add_assoc (length r) (offset (lengths_of rs) k) pos, set_append_right r (flat rs) (offset (lengths_of rs) k + pos) c, flat_stop k pos c rs (le_of_suc-le-suc h) g)
  where
    set_append_right : (xs ys : List ℕ) (n x : ℕ) → slice_set (xs ++ ys) (length xs + n) x ≡ xs ++ slice_set ys n x
    set_append_right [] ys n x = rw zero-add
    set_append_right (z ∷ xs) ys n x = rw suc-add (ap (λ (l : List ℕ). z ∷ l) (set_append_right xs ys n x))

-- In the two slices two cells are exchanged, and the lengths stay.
module _ (ls s : List ℕ) (a i b j : ℕ) (d : a ≡ b → ⊥) (h : a < length ls) (k : b < length ls) (hi : i < slice_index ls a) (hj : j < slice_index ls b) (u : total ls ≤ length s) where
  pub exchange_stops_slices : split ls (swap (offset ls a + i) (offset ls b + j) s) ≡ exchange_stops a i b j (split ls s)
  unfolding exchange_stops swap
  exchange_stops_slices =
      let plan = split ls s in
      let p = offset ls a + i in
      let q = offset ls b + j in
      let x = slice_index_or (route b plan) j 0 in
      let y = slice_index_or (route a plan) i 0 in
      let L : lengths_of plan ≡ ls = lengths_split ls s u in
      let la : length (route a plan) ≡ slice_index_or ls a 0 = length_route ls s u a in
      let lb : length (route b plan) ≡ slice_index_or ls b 0 = length_route ls s u b in
      let one = set plan a (slice_set (route a plan) i x) in
      let o : route b one ≡ route b plan = get_or-set_other plan a b (slice_set (route a plan) i x) [] (λ e. d (sym e)) in
      let L1 : lengths_of one ≡ ls =
      rw (lengths_set plan a (slice_set (route a plan) i x), length-set (route a plan) i x, ← lengths_get plan a) (set-get_or (lengths_of plan) a 0) ∙ L in
      let f1 = rw L at (flat_stop a i x plan (rw length_split h) (rw la hi)) in
      let f2 = rw (o, L1) at (flat_stop b j y one (rw (length-set, length_split) k) (rw (o, lb) hj)) in
      let free = drop (total ls) s in
      let F = take (total ls) s in
      let n : length F ≡ total ls = length-take-le (total ls) s u in
      let pin : p < length F = omega (arith, route_within ls a h) in
      let qin : q < length (slice_set F p x) = rw length-set (omega (arith, route_within ls b k)) in
      let e : set (slice_set s p x) q y ≡ slice_set (slice_set F p x) q y ++ free =
      ap (λ (z : List ℕ). set (slice_set z p x) q y) (sym (take-append-drop (total ls) s))
      ∙ rw (set-append_left F free p x pin, set-append_left (slice_set F p x) free q y qin) in
      let g : set (slice_set F p x) q y ≡ flat (slice_set one b (slice_set (route b plan) j y)) = rw (f2, f1, flat_split ls s) in
      let l : lengths_of (slice_set one b (slice_set (route b plan) j y)) ≡ ls =
      rw (lengths_set one b (slice_set (route b plan) j y), length-set (route b plan) j y, lb, L1) (set-get_or ls b 0) in
      rw (stop_split ls s u b j hj, stop_split ls s u a i hi) (split_is (slice_set one b (slice_set (route b plan) j y)) free (sym l) (e ∙ rw g))

-- among the flat stops
pub flat_exchange_stops : (a i b j : ℕ) (plan : Plan) → (a ≢ b) → HasStop plan a i → HasStop plan b j
    → flat (exchange_stops a i b j plan) ≡ swap (offset (lengths_of plan) a + i) (offset (lengths_of plan) b + j) (flat plan)
flat_exchange_stops a i b j plan d f g =
    let ls = lengths_of plan in
    let s = flat plan in
    let t : total ls ≡ length s = total_lengths plan in
    let n : length ls ≡ length plan = length-map plan length in
    let e = rw (split_own plan) at (exchange_stops_slices ls s a i b j d (omega (arith, f.there)) (omega (arith, g.there)) (rw (lengths_get plan a) f.within) (rw (lengths_get plan b) g.within) (omega arith)) in
    let z : total ls ≡ length (swap (offset ls a + i) (offset ls b + j) s) = t ∙ sym (length_swap (offset ls a + i) (offset ls b + j) s) in
    sym (ap flat e) ∙ flat_split_all ls (swap (offset ls a + i) (offset ls b + j) s) z

-- ---- two tails exchanged

module _ (a i b j : ℕ) (plan : Plan) where
  pub length_exchange_tails : length (exchange_tails a i b j plan) ≡ length plan
  unfolding exchange_tails
  length_exchange_tails = simp length-set

  pub all_exchange_tails : {P : List ℕ → Type 0} → P (take i (route a plan) ++ drop j (route b plan)) → P (take j (route b plan) ++ drop i (route a plan))
      → All P plan → All P (exchange_tails a i b j plan)
  unfolding exchange_tails
  all_exchange_tails p q all = all_set b (all_set a all p) q

  pub lengths_exchange_tails : i ≤ length (route a plan) → j ≤ length (route b plan)
      → lengths_of (exchange_tails a i b j plan) ≡ slice_set (slice_set (lengths_of plan) a (i + (length (route b plan) - j))) b (j + (length (route a plan) - i))
  unfolding exchange_tails
  lengths_exchange_tails hi hj =
      let ti : length (take i (route a plan)) ≡ i = length-take-le i (route a plan) hi in
      let tj : length (take j (route b plan)) ≡ j = length-take-le j (route b plan) hj in
      simp (lengths_set, length-append, length-drop, ti, tj)

  module _ (d : a ≡ b → ⊥) where
    pub exchange_tails_comm : exchange_tails a i b j plan ≡ exchange_tails b j a i plan
    unfolding exchange_tails
    exchange_tails_comm = set_either plan a b (take i (route a plan) ++ drop j (route b plan)) (take j (route b plan) ++ drop i (route a plan)) d

    pub occurs_exchange_tails : (x : ℕ) → a < length plan → b < length plan → occurs x (exchange_tails a i b j plan) ≡ occurs x plan
    unfolding exchange_tails
    occurs_exchange_tails x h k =
        let ra = route a plan in
        let rb = route b plan in
        occurs_two plan a b (take i ra ++ drop j rb) (take j rb ++ drop i ra) d x h k (omega (arith, count_append x (take i ra) (drop j rb), count_append x (take j rb) (drop i ra), count_parts x i ra, count_parts x j rb))

    pub number_exchange_tails : a < length plan → b < length plan → i ≤ length (route a plan) → j ≤ length (route b plan)
        → length (flat (exchange_tails a i b j plan)) ≡ length (flat plan)
    unfolding exchange_tails
    number_exchange_tails h k hi hj =
        let ra = route a plan in
        let rb = route b plan in
        let ti : length (take i ra) ≡ i = length-take-le i ra hi in
        let tj : length (take j rb) ≡ j = length-take-le j rb hj in
        number_two plan a b (take i ra ++ drop j rb) (take j rb ++ drop i ra) d h k (simp (length-append, length-drop, ti, tj) (omega arith))

    module _ (h : a < length plan) (k : b < length plan) where
      pub first_exchange_tails : route a (exchange_tails a i b j plan) ≡ take i (route a plan) ++ drop j (route b plan)
      unfolding exchange_tails
      first_exchange_tails = route_first plan a b (take i (route a plan) ++ drop j (route b plan)) (take j (route b plan) ++ drop i (route a plan)) d h

      pub second_exchange_tails : route b (exchange_tails a i b j plan) ≡ take j (route b plan) ++ drop i (route a plan)
      unfolding exchange_tails
      second_exchange_tails = route_second plan a b (take i (route a plan) ++ drop j (route b plan)) (take j (route b plan) ++ drop i (route a plan)) d k

      -- both are positions of the plan still
      pub first_position_still : i ≤ length (route a plan) → HasPosition (exchange_tails a i b j plan) a i
      first_position_still g =
          let t : length (take i (route a plan)) ≡ i = length-take-le i (route a plan) g in
          record { there = rw length_exchange_tails h; within = rw (first_exchange_tails, length-append, t) (omega arith) }

      pub second_position_still : j ≤ length (route b plan) → HasPosition (exchange_tails a i b j plan) b j
      second_position_still g =
          let t : length (take j (route b plan)) ≡ j = length-take-le j (route b plan) g in
          record { there = rw length_exchange_tails k; within = rw (second_exchange_tails, length-append, t) (omega arith) }

      pub exchange_tails_twice : i ≤ length (route a plan) → j ≤ length (route b plan) → exchange_tails a i b j (exchange_tails a i b j plan) ≡ plan
      unfolding exchange_tails
      exchange_tails_twice hi hj =
          let ra = route a plan in
          let rb = route b plan in
          let ti : length (take i ra) ≡ i = length-take-le i ra hi in
          let tj : length (take j rb) ≡ j = length-take-le j rb hj in
          rw (
            first_exchange_tails,
            second_exchange_tails,
            take_at (take i ra) (drop j rb) i ti,
            drop_at (take i ra) (drop j rb) i ti,
            take_at (take j rb) (drop i ra) j tj,
            drop_at (take j rb) (drop i ra) j tj,
            take-append-drop i ra,
            take-append-drop j rb,
          )
          (set_back plan a b (take i ra ++ drop j rb) (take j rb ++ drop i ra) d)

-- By parts: the plan is X, r, Y, s, Z and the stops are those of X and r's front, r's tail, those of Y and s's front, s's tail, those of Z.
module _ (X Y Z : Plan) (free r s : List ℕ) (i j : ℕ) (hi : i ≤ length r) (hj : j ≤ length s) where
  front_tail : (r rest : List ℕ) (i : ℕ) → r ++ rest ≡ take i r ++ (drop i r ++ rest)
  front_tail r rest i = rw (← append_assoc (take i r) (drop i r) rest, take-append-drop)

  tails_flat : swap_parts (length (flat X) + i) (length (flat X) + length r) (length (flat X) + length r + length (flat Y) + j) (length (flat X) + length r + length (flat Y) + length s)
      (flat (X ++ r ∷ (Y ++ s ∷ Z)) ++ free)
      ≡ flat (X ++ (take i r ++ drop j s) ∷ (Y ++ (take j s ++ drop i r) ∷ Z)) ++ free
  unfolding flat
  tails_flat =
      let ti : length (take i r) ≡ i = length-take-le i r hi in
      let tj : length (take j s) ≡ j = length-take-le j s hj in
      let e : flat (X ++ r ∷ (Y ++ s ∷ Z)) ++ free ≡ (flat X ++ take i r) ++ (drop i r ++ ((flat Y ++ take j s) ++ (drop j s ++ (flat Z ++ free)))) =
      rw (flat_append X (r ∷ (Y ++ s ∷ Z)), flat_append Y (s ∷ Z), front_tail s (flat Z) j, front_tail r (flat Y ++ (take j s ++ (drop j s ++ flat Z))) i) (simp append_assoc) in
      rw (
        e,
        swap_parts_of (flat X ++ take i r) (drop i r) (flat Y ++ take j s) (drop j s) (flat Z ++ free)
            (length (flat X) + i) (length (flat X) + length r) (length (flat X) + length r + length (flat Y) + j) (length (flat X) + length r + length (flat Y) + length s)
            (rw (length-append, ti)) (rw length-drop (omega arith)) (rw (length-append, tj) (omega arith)) (rw length-drop (omega arith)),
        flat_append X ((take i r ++ drop j s) ∷ (Y ++ (take j s ++ drop i r) ∷ Z)),
        flat_append Y ((take j s ++ drop i r) ∷ Z),
      )
      (simp append_assoc)

module _ (plan : Plan) (a i b j : ℕ) (h : a < b) (k : b < length plan) (hi : i ≤ length (route a plan)) (hj : j ≤ length (route b plan)) where
  begins : (c : ℕ) → length (flat (take c plan)) ≡ offset (lengths_of plan) c
  begins c = sym (total_lengths (take c plan)) ∙ ap total (lengths_take plan c)

  -- where route b begins
  second_begins : length (flat (take b plan)) ≡ length (flat (take a plan)) + length (route a plan) + length (flat (part (suc a) b plan))
  unfolding flat
  second_begins =
      let X = take a plan in
      let Y = part (suc a) b plan in
      let r = route a plan in
      let lX : length X ≡ a = length-take-le a plan (omega arith) in
      let lY : length Y ≡ b - suc a = length-take-le (b - suc a) (drop (suc a) plan) (rw length-drop (omega arith)) in
      let l : length (X ++ r ∷ Y) ≡ b = rw length-append (omega arith) in
      let t : take b plan ≡ X ++ r ∷ Y =
      ap (λ (q : Plan). take b q) (split_at_two plan a b [] h k ∙ sym (append_assoc X (r ∷ Y) (route b plan ∷ drop (suc b) plan)))
      ∙ take_at (X ++ r ∷ Y) (route b plan ∷ drop (suc b) plan) b l in
      rw (t, flat_append X (r ∷ Y), length-append, length-append) (omega arith)

  pub flat_exchange_tails : (free : List ℕ)
      → swap_parts (offset (lengths_of plan) a + i) (offset (lengths_of plan) a + length (route a plan)) (offset (lengths_of plan) b + j) (offset (lengths_of plan) b + length (route b plan)) (flat plan ++ free)
      ≡ flat (exchange_tails a i b j plan) ++ free
  unfolding exchange_tails
  flat_exchange_tails free =
      let r = route a plan in
      let s = route b plan in
      let oa = length (flat (take a plan)) in
      let ly = length (flat (part (suc a) b plan)) in
      rw (← begins a, ← begins b, second_begins, set_two plan a b [] (take i r ++ drop j s) (take j s ++ drop i r) h k)
      (ap (λ (q : Plan). swap_parts (oa + i) (oa + length r) (oa + length r + ly + j) (oa + length r + ly + length s) (flat q ++ free)) (split_at_two plan a b [] h k)
      ∙ tails_flat (take a plan) (part (suc a) b plan) (drop (suc b) plan) free r s i j hi hj)

-- In the two slices the two tails are exchanged, here for a before b: exchange-tails-comm turns the other order to this one.
module _ (ls s : List ℕ) (a i b j : ℕ) (h : a < b) (k : b < length ls) (hi : i ≤ slice_index ls a) (hj : j ≤ slice_index ls b) (u : total ls ≤ length s) where
  pub exchange_tails_slices : Holds (exchange_tails a i b j (split ls s)) (total ls)
      (slice_set (slice_set ls a (i + (slice_index ls b - j))) b (j + (slice_index ls a - i)))
      (swap_parts (offset ls a + i) (offset ls a + slice_index ls a) (offset ls b + j) (offset ls b + slice_index ls b) s)
  exchange_tails_slices =
      let plan = split ls s in
      let L : lengths_of plan ≡ ls = lengths_split ls s u in
      let la : length (route a plan) ≡ slice_index_or ls a 0 = length_route ls s u a in
      let lb : length (route b plan) ≡ slice_index_or ls b 0 = length_route ls s u b in
      let ia : i ≤ length (route a plan) = rw la hi in
      let jb : j ≤ length (route b plan) = rw lb hj in
      let e = rw (L, la, lb, flat_free ls s u) at (flat_exchange_tails plan a i b j h (rw length_split k) ia jb (drop (total ls) s)) in
      let l = rw (la, lb, L) at (lengths_exchange_tails a i b j plan ia jb) in
      let x = i + (slice_index ls b - j) in
      let g : slice_index_or (slice_set ls a x) b 0 ≡ slice_index_or ls b 0 = get_or-set_other ls a b x 0 (λ q. omega arith) in
      record {
        routes = split_is (exchange_tails a i b j plan) (drop (total ls) s) (sym l) e;
        sum = omega (arith, total_set ls a x (omega arith), total_set (slice_set ls a x) b (j + (slice_index ls a - i)) (rw length-set k));
      }

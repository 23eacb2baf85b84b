-- Route lines that are read into lengths and stops. Assumes nothing.
use Prim.Native.Nat.{ℕ, zero, suc, ◌+◌, ◌-◌, ◌≤◌, ◌<◌}
use mathlib.Core.Path.{◌≡◌, refl, ap, sym, ◌∙◌, subst}
use mathlib.Core.List.{List, [], ◌∷◌, ◌++◌, map, append_assoc, append-nil, map-append}
use native.Mathlib.Omega.{arith}
use borrow.Author.Tests.{le-leb, lt-leb, leb-true}
use mathlib.Core.Bool.{Bool, true, false}
use lib.Dec.{leb}
use lib.ListN.{length, take, drop, set, length-drop}
use lib.Seq.{length-take-le, take-append-add}
use Rattle.std.proofs.lemmas.List.{take_at, take-append-le}
use Rattle.sheet_reader.specs.plan.Plan.{Plan, Slices, flat, lengths_of}
use Rattle.std.specs.Prelude.{Result, Ok, Err, IfOk}
use Rattle.sheet_reader.specs.sheet_text.refusal.declared.Refusal.{Refusal}
use Rattle.sheet_routes.specs.declared.routes.PlanSize.{PlanSize}
use borrow.Rule.Slice.PartMut.{put_mid, post_of}
use Rattle.sheet_reader.specs.sheet_text.declared.Text.{Text}
use Rattle.sheet_reader.specs.sheet_text.Text.{Reading, refused, got, next, check, Parser, byte, number, ending, repeat, line}
use Rattle.sheet_reader.specs.sheet_text.Told.{Reads, seen}
use Rattle.sheet_reader.specs.SheetTextReadLaws.{Left, done, passed, failed, seen_got, seen_refused, seen_then, seen_stop, got_of, refused_of, ends, goes_on}
use Rattle.sheet_reader.specs.sheet_format.Form.{stop_cell, route_line, route_lines, slices_of}
use Rattle.sheet_reader.specs.Cells.{front}
use Rattle.sheet_routes.specs.Routes.{route_cells}
use Rattle.sheet_reader.proofs.FillLaws.{left_as, one_more, cell_filled}
use Rattle.sheet_reader.proofs.SectionLaws.{next_rule}

-- ---- a route's line

-- a line's numbers are as many as were asked for
abbrev Long : {A : Type 0} → ℕ → Reading (List A) → Type 0
Long k (refused n) = Unit {0}
Long k (got vs j) = length vs ≡ k

all_long : {A : Type 0} (k : ℕ) (q : ℕ → Parser A) (s : List ℕ) (a : ℕ) → Long k (repeat k q s a)
unfolding repeat
all_long zero q s a = refl
all_long {A} (suc k) q s a = next_rule (Long (suc k)) (λ n. tt) (q k s a) (λ v i. last v (repeat k q s i) (all_long k q s i))
  where
    last : (v : A) (r : Reading (List A)) → Long k r → Long (suc k) (next r (λ vs j. got (v ∷ vs) j))
    last v (refused n) h = tt
    last v (got vs j) h = ap suc h

line_length : (k : ℕ) {t u : Text} {vs : List ℕ} → Reads (line k) t (got vs) u → length vs ≡ k
line_length k {t} h =
    subst (Long k) (sym h.read) (all_long k (λ left s i. next (number s i) (λ v l. next (byte (ending left) s l) (λ u m. got v m))) t.bytes.now t.at)

-- what stands behind the length is what the line asks for
pub gap : {x : ℕ} (m : ℕ) {t u : Text} {said : ℕ → Reading (Unit {0})} → x ≡ ending m → Reads (byte x) t said u → Reads (byte (ending m)) t said u
gap m {t} {u} {said} e h = subst (λ (y : ℕ). Reads (byte y) t said u) e h

module _ (cells : List ℕ) where
  abbrev route_read : Parser (ℕ × List ℕ)
  route_read = seen route_cells (route_line (length cells))

  -- the numbers of as many stops as their part has cells
  abbrev row : ℕ → Parser (List ℕ)
  row v = seen (map stop_cell) (line (length (take v cells)))

  pub no_length : {t u : Text} {n : ℕ} → Reads number t (λ at. refused n) u → Reads route_read t (λ at. refused n) u
  unfolding route_line
  no_length n = seen_stop route_cells _ n

  module _ {v : ℕ} {t u : Text} (n : Reads number t (got v) u) where
    pub too_many : length cells < v → Reads route_read t (λ at. refused 12) u
    unfolding route_line
    too_many o = seen_then route_cells _ n (seen_stop route_cells _ (failed 12 (lt-leb v (length cells) o)))

    module _ (o : v ≤ length cells) where
      pub no_gap : {w : Text} {k : ℕ} → Reads (byte (ending v)) u (λ at. refused k) w → Reads route_read t (λ at. refused k) w
      unfolding route_line
      no_gap b = seen_then route_cells _ n (seen_then route_cells _ (passed 12 (le-leb v (length cells) o)) (seen_stop route_cells _ b))

      module _ {w : Text} (b : Reads (byte (ending v)) u (got tt) w) where
        behind_gap : {said : ℕ → Reading (ℕ × List ℕ)} {x : Text} → Reads (seen route_cells (line v)) w said x → Reads route_read t said x
        unfolding route_line
        behind_gap g = seen_then route_cells _ n (seen_then route_cells _ (passed 12 (le-leb v (length cells) o)) (seen_then route_cells _ b g))

        same_row : {said : ℕ → Reading (List ℕ)} {x : Text} → Reads (row v) w said x → Reads (seen (map stop_cell) (line v)) w said x
        same_row {said} {x} g = subst (λ (k : ℕ). Reads (seen (map stop_cell) (line k)) w said x) (length-take-le v cells o) g

        pub no_stops : {x : Text} {k : ℕ} → Reads (row v) w (λ at. refused k) x → Reads route_read t (λ at. refused k) x
        no_stops g = behind_gap (seen_refused route_cells (refused_of (map stop_cell) (same_row g)))

        pub route_got : {ys : List ℕ} (rest : List ℕ) {x : Text} → length ys ≡ length (take v cells) → Reads (row v) w (got ys) x → Reads route_read t (got (v, take v (ys ++ rest))) x
        route_got {ys} rest {x} e g =
            let h = got_of (map stop_cell) (same_row g) in
            let l : length h.0 ≡ v = line_length v h.1 in
            let f : take v (ys ++ rest) ≡ map stop_cell h.0 = take_at ys rest v (e ∙ length-take-le v cells o) ∙ h.2 in
            subst (λ (p : ℕ × List ℕ). Reads route_read t (got p) x)
            (ap (λ (k : ℕ). (k, map stop_cell h.0)) l ∙ ap (λ (c : List ℕ). (v, c)) (sym f))
            (behind_gap (seen_got route_cells h.1))

-- ---- a route has no more stops than there is room for

abbrev Few : ℕ → Reading (List ℕ) → Type 0
Few room (refused n) = Unit {0}
Few room (got vs j) = length vs ≤ room

all_few : (room : ℕ) (s : List ℕ) (a : ℕ) → Few room (route_line room s a)
unfolding route_line
all_few room s a = next_rule (Few room) (λ n. tt) (number s a) (λ k i. judged k i (leb k room) refl)
  where
    of_long : (k : ℕ) → k ≤ room → (r : Reading (List ℕ)) → Long k r → Few room r
    of_long k h (refused n) l = tt
    of_long k h (got vs j) l = omega (arith, l, h)

    judged : (k i : ℕ) (b : Bool) → leb k room ≡ b → Few room (next (check b 12 s i) (λ u j. next (byte (ending k) s j) (λ v l. line k s l)))
    judged k i false e = tt
    judged k i true e =
        next_rule (Few room) (λ n. tt) (byte (ending k) s i)
        (λ u j. of_long k (leb-true k room e) (line k s j) (all_long k (λ left t m. next (number t m) (λ v l. next (byte (ending left) t l) (λ x y. got v y))) s j))

pub route_few : {room : ℕ} {m : List ℕ} {k : ℕ} {t u : Text} → Reads (seen route_cells (route_line room)) t (got (k, m)) u → k ≤ room
route_few {room} {k = k} {t} g =
    let x = got_of route_cells g in
    let f : length x.0 ≤ room = subst (Few room) (sym x.1.read) (all_few room t.bytes.now t.at) in
    let l : k ≡ length x.0 = ap (λ p. p.0) x.2 in
    omega (arith, f, l)

-- ---- routes one after the other

abbrev slices : List ℕ → List ℕ → Slices
slices ls ss = record { lengths = ls; stops = ss }

-- what the slices hold if so many lengths and stops are there and these routes come behind
abbrev pub plan_behind : ℕ → List ℕ → ℕ → List ℕ → Plan → Slices
plan_behind r lengths used stops plan = record { lengths = take r lengths ++ lengths_of plan; stops = front stop_cell stops used (flat plan) }

pub routes_start : (ls ss : List ℕ) (p : Parser Plan) (t : Text) → Left (seen slices_of p) t (seen (plan_behind 0 ls 0 ss) p) t
unfolding slices_of
routes_start ls ss p t = left_as slices_of (plan_behind 0 ls 0 ss) p t (λ plan. refl)

-- one route more
routes_more
    : (ls ss d : List ℕ) (r used k : ℕ) (v : List ℕ) (vs : Plan)
    → r < length ls
    → k ≡ length v
    → take (used + k) d ≡ take used ss ++ map stop_cell v
    → plan_behind r ls used ss (v ∷ vs) ≡ plan_behind (r + 1) (set ls r k) (used + k) d vs
unfolding flat
routes_more ls ss d r used k v vs o l m =
    let a : take r ls ++ (length v ∷ lengths_of vs) ≡ take (r + 1) (set ls r k) ++ lengths_of vs =
    ap (λ (n : ℕ). take r ls ++ (n ∷ lengths_of vs)) (sym l) ∙ cell_filled ls r k (lengths_of vs) o in
    let b : take used ss ++ map stop_cell (v ++ flat vs) ≡ take (used + k) d ++ map stop_cell (flat vs) =
    ap (λ x. take used ss ++ x) (map-append stop_cell v (flat vs))
    ∙ sym (append_assoc (take used ss) (map stop_cell v) (map stop_cell (flat vs)))
    ∙ ap (λ x. x ++ map stop_cell (flat vs)) (sym m) in
    ap (λ (x : List ℕ). slices x (take used ss ++ map stop_cell (v ++ flat vs))) a ∙ ap (λ (y : List ℕ). slices (take (r + 1) (set ls r k) ++ lengths_of vs) y) b

-- the cells that are left of the first 64
pub room_left : (ss : List ℕ) (used : ℕ) → used ≤ 64 → 64 ≤ length ss → length (take (64 - used) (drop used ss)) ≡ 64 - used
room_left ss used h o = length-take-le (64 - used) (drop used ss) (omega (arith, length-drop used ss))

-- the first cells of a part that was filled, with those in front of it
part_front : (cells : List ℕ) (p n k : ℕ) (ys : List ℕ) → p ≤ length cells → k ≤ length ys → take (p + k) (put_mid p n cells ys) ≡ take p cells ++ take k ys
part_front cells p n k ys h o =
    subst (λ (m : ℕ). take (m + k) (put_mid p n cells ys) ≡ take p cells ++ take k (ys ++ post_of p n cells)) (length-take-le p cells h)
    (take-append-add (take p cells) (ys ++ post_of p n cells) k)
    ∙ ap (λ (c : List ℕ). take p cells ++ c) (take-append-le k ys (post_of p n cells) o)

module _
    (ls ss : List ℕ) (r used left : ℕ) {whole : Parser Slices} {old t : Text}
    (l : Left whole old (seen (plan_behind r ls used ss) (route_lines left (64 - used))) t)
  where
    pub routes_end : (n : ℕ) → r ≡ n → left ≤ 0 → Reads whole old (got (record { lengths = take n ls; stops = take used ss })) t
    unfolding route_lines flat
    routes_end n o h =
        let z : left ≡ 0 = omega arith in
        rw (← o, ← append-nil (take r ls), ← append-nil (take used ss))
        (ends (subst (λ (k : ℕ). Left whole old (seen (plan_behind r ls used ss) (route_lines k (64 - used))) t) z l) (done (plan_behind r ls used ss []) t))

    module _ (m : ℕ) (h : left ≡ suc m) where
      open_left : Left whole old (seen (plan_behind r ls used ss) (route_lines (suc m) (64 - used))) t
      open_left = subst (λ (k : ℕ). Left whole old (seen (plan_behind r ls used ss) (route_lines k (64 - used))) t) h l

      pub routes_fault : {room n : ℕ} {u : Text} → room ≡ 64 - used → Reads (seen route_cells (route_line room)) t (λ at. refused n) u → Reads whole old (λ at. refused n) u
      unfolding route_lines
      routes_fault e g = ends open_left (seen_stop (plan_behind r ls used ss) _ (refused_of route_cells (rw e at g)))

      pub routes_turn
          : {room k : ℕ} (n : ℕ) (part : List ℕ) {u : Text}
          → room ≡ 64 - used
          → used ≤ length ss
          → r < length ls
          → length part ≡ room
          → Reads (seen route_cells (route_line room)) t (got (k, take k part)) u
          → Left whole old (seen (plan_behind (r + 1) (set ls r k) (used + k) (put_mid used n ss part)) (route_lines m (64 - (used + k)))) u
      unfolding route_lines flat
      routes_turn {room} {k} n part {u} e w o s h =
          let d : List ℕ = put_mid used n ss part in
          let x = got_of route_cells (subst (λ (i : ℕ). Reads (seen route_cells (route_line i)) t (got (k, take k part)) u) e h) in
          let l : k ≡ length x.0 = ap (λ p. p.0) x.2 in
          let f : take (used + k) d ≡ take used ss ++ map stop_cell x.0 =
          part_front ss used n k part w (omega (arith, route_few h, s)) ∙ ap (λ (p : ℕ × List ℕ). take used ss ++ p.1) x.2 in
          let y : 64 - used - length x.0 ≡ 64 - (used + k) = omega (arith, l) in
          goes_on open_left _
          (subst (λ (i : ℕ). Left (seen (plan_behind r ls used ss) (route_lines (suc m) (64 - used))) t (seen (plan_behind (r + 1) (set ls r k) (used + k) d) (route_lines m i)) u) y
          (one_more (plan_behind r ls used ss) (plan_behind (r + 1) (set ls r k) (used + k) d) (route_line (64 - used)) (λ v. route_lines m (64 - used - length v)) x.1
          (λ vs. routes_more ls ss d r used k x.0 vs o l f)))

-- ---- the bounds of a plan that was read

pub within_more : (n m : ℕ) (r : Result PlanSize Refusal) → n ≤ m → IfOk r (λ p. (p.given ≤ n) × (p.used ≤ 64)) → IfOk r (λ p. (p.given ≤ m) × (p.used ≤ 64))
within_more n m (Ok p) h w = (omega (arith, w.0, h), w.1)
within_more n m (Err k) h w = tt

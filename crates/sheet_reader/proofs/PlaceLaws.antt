-- Places that are read into the six slices. Assumes nothing.
use Prim.Native.Nat.{ℕ, suc, ◌+◌, ◌≤◌, ◌<◌}
use mathlib.Core.Path.{◌≡◌, refl, ap, sym, ◌∙◌, subst}
use mathlib.Core.List.{List, [], ◌∷◌, ◌++◌, append_assoc, append-nil}
use native.Mathlib.Omega.{arith}
use native.Mathlib.Numerals.{add-one}
use lib.ListN.{length, take, set}
use lib.Seq.{take-suc-set}
use lib.IntN.{ℤ}
use lib.Ieee.{Float}
use Rattle.sheet_cells.specs.sheet_text.declared.Text.{Text}
use Rattle.sheet_cells.specs.sheet_text.Text.{refused, got, Parser, repeat}
use Rattle.sheet_cells.specs.sheet_text.Told.{Reads, seen}
use Rattle.sheet_cells.specs.SheetTextReadLaws.{Left, seen_got, got_of, refused_of}
use Rattle.sheet_cells.specs.sheet_format.declared.places.Place.{Place}
use Rattle.sheet_cells.specs.sheet_format.Form.{ready_cell, due_cell, penalty_cell, flags_cell, place}
use Rattle.sheet_reader.specs.Cells.{Columns, columns_of, columns, first_cells, join, add_place, Room}
use Rattle.sheet_reader.proofs.FillLaws.{left_as, fill_end, fill_fault, fill_turn}

-- a cell that is filled
added : {A : Type 0} (l : List A) (i : ℕ) (x : A) → i + 1 ≤ length l → take (i + 1) (set l i x) ≡ take i l ++ (x ∷ [])
added l i x h =
    let k : i < length l = omega arith in
    rw (add-one, take-suc-set l i x)

module _ (c : Columns) (i : ℕ) (room : Room (i + 1) c) where
  -- the cells of place i, filled
  abbrev put : ℤ → Float → Float → Float → Float → ℕ → Columns
  put d v r e p f = columns_of (set c.demand i d) (set c.service i v) (set c.ready i r) (set c.due i e) (set c.penalty i p) (set c.flags i f)

  cells_filled
      : (x : Place)
      → first_cells
      (i + 1)
      (put
      x.demand
      x.customer.service_duration
      (ready_cell x.customer.time_window)
      (due_cell x.customer.time_window)
      (penalty_cell x.customer.lateness_penalty)
      (flags_cell x.customer.time_window x.customer.lateness_penalty))
      ≡ add_place (first_cells i c) x
  unfolding first_cells join columns
  cells_filled x =
      rw (
        added c.demand i x.demand room.demands,
        added c.service i x.customer.service_duration room.services,
        added c.ready i (ready_cell x.customer.time_window) room.readies,
        added c.due i (due_cell x.customer.time_window) room.dues,
        added c.penalty i (penalty_cell x.customer.lateness_penalty) room.penalties,
        added c.flags i (flags_cell x.customer.time_window x.customer.lateness_penalty) room.flag_cells,
      )

  -- the line of a place, in the cells
  pub place_filled
      : {t u : Text} {x : Place} {y : ℤ} {yr yu yp : Float} {yf : ℕ}
      → Reads place t (got x) u
      → y ≡ x.demand
      → yr ≡ ready_cell x.customer.time_window
      → yu ≡ due_cell x.customer.time_window
      → yp ≡ penalty_cell x.customer.lateness_penalty
      → yf ≡ flags_cell x.customer.time_window x.customer.lateness_penalty
      → Reads (seen (add_place (first_cells i c)) place) t (got (first_cells (i + 1) (put y x.customer.service_duration yr yu yp yf))) u
  place_filled {t} {u} {x} h hy hr hu hp hf =
      rw (hy, hr, hu, hp, hf)
      (subst (λ (d : Columns). Reads (seen (add_place (first_cells i c)) place) t (got d) u) (sym (cells_filled x)) (seen_got (add_place (first_cells i c)) h))

-- ---- places one after the other

-- what the slices hold if their first i cells are filled and these places come behind
abbrev pub behind : ℕ → Columns → List Place → Columns
behind i c ps = join (first_cells i c) (columns ps)

pub places_start : (c : Columns) (p : Parser (List Place)) (t : Text) → Left (seen columns p) t (seen (behind 0 c) p) t
unfolding first_cells join columns
places_start c p t = left_as columns (behind 0 c) p t (λ ps. refl)

join_more : (c : Columns) (x : Place) (ps : List Place) → join c (columns (x ∷ ps)) ≡ join (add_place c x) (columns ps)
unfolding join columns
join_more c x ps =
    rw (
      append_assoc c.demand,
      append_assoc c.service,
      append_assoc c.ready,
      append_assoc c.due,
      append_assoc c.penalty,
      append_assoc c.flags,
    )

join_none : (c : Columns) → join c (columns []) ≡ c
unfolding join columns
join_none c =
    rw (append-nil c.demand, append-nil c.service, append-nil c.ready, append-nil c.due, append-nil c.penalty, append-nil c.flags)

module _ (c : Columns) (i left : ℕ) {whole : Parser Columns} {old t : Text} (l : Left whole old (seen (behind i c) (repeat left (λ l. place))) t) where
  pub places_end : (n : ℕ) → i ≡ n → left ≤ 0 → Reads whole old (got (first_cells n c)) t
  places_end n z h =
      rw (← z) (subst (λ (d : Columns). Reads whole old (got d) t) (join_none (first_cells i c)) (fill_end (λ l. place) (behind i c) left l h))

  module _ (m : ℕ) (h : left ≡ suc m) where
    pub places_fault : {n : ℕ} {u : Text} → Reads (seen (add_place (first_cells i c)) place) t (λ at. refused n) u → Reads whole old (λ at. refused n) u
    places_fault g = fill_fault (λ l. place) (behind i c) left l m h (refused_of (add_place (first_cells i c)) g)

    pub places_turn : (d : Columns) {u : Text} → Reads (seen (add_place (first_cells i c)) place) t (got (first_cells (i + 1) d)) u
        → Left whole old (seen (behind (i + 1) d) (repeat m (λ l. place))) u
    places_turn d g =
        let x = got_of (add_place (first_cells i c)) g in
        fill_turn (λ l. place) (behind i c) left l m h (behind (i + 1) d) x.1
        (λ ps. join_more (first_cells i c) x.0 ps ∙ ap (λ (b : Columns). join b (columns ps)) (sym x.2))

-- How lent slices hold what is read: in their first cells, one after the other. Assumes nothing.
use Rattle.std.specs.Prelude.{ℕ, ◌≤◌, ◌≡◌, refl, List, [], ◌∷◌, ◌++◌, map, length, take, ℤ, Float}
use Rattle.std.proofs.Common.{◌∙◌}
use native.Mathlib.Omega.{arith}
use Rattle.sheet_cells.specs.sheet_format.declared.places.Place.{Place}
use Rattle.sheet_cells.specs.sheet_format.Form.{ready_cell, due_cell, penalty_cell, flags_cell}
use Rattle.sheet_reader.specs.declared.places.Columns.{Columns as Lent}

-- ---- numbers

-- the first p cells, and behind them the numbers vs, each as f has it
abbrev pub front : {A : Type 0} → (ℕ → A) → List A → ℕ → List ℕ → List A
front f cells p vs = take p cells ++ map f vs

-- ---- places

-- what the six slices of the places hold
pub record Columns : Type 0 where
  pub demand : List ℤ
  pub service : List Float
  pub ready : List Float
  pub due : List Float
  pub penalty : List Float
  pub flags : List ℕ

abbrev pub columns_of : List ℤ → List Float → List Float → List Float → List Float → List ℕ → Columns
columns_of demand service ready due penalty flags =
    record { demand = demand; service = service; ready = ready; due = due; penalty = penalty; flags = flags }

abbrev pub of_columns : Lent → Columns
of_columns c = columns_of c.demand.now c.service.now c.ready.now c.due.now c.penalty.now c.flags.now

-- what each of them holds of some places
unfoldable pub columns : List Place → Columns
columns ps =
    columns_of
    (map (λ p. p.demand) ps)
    (map (λ p. p.customer.service_duration) ps)
    (map (λ p. ready_cell p.customer.time_window) ps)
    (map (λ p. due_cell p.customer.time_window) ps)
    (map (λ p. penalty_cell p.customer.lateness_penalty) ps)
    (map (λ p. flags_cell p.customer.time_window p.customer.lateness_penalty) ps)

-- the first n cells of each
unfoldable pub first_cells : ℕ → Columns → Columns
first_cells n c =
    columns_of (take n c.demand) (take n c.service) (take n c.ready) (take n c.due) (take n c.penalty) (take n c.flags)

-- one behind the other
unfoldable pub join : Columns → Columns → Columns
join a b =
    columns_of
    (a.demand ++ b.demand)
    (a.service ++ b.service)
    (a.ready ++ b.ready)
    (a.due ++ b.due)
    (a.penalty ++ b.penalty)
    (a.flags ++ b.flags)

-- one place more
abbrev pub add_place : Columns → Place → Columns
add_place c p = join c (columns (p ∷ []))

-- each of them has n cells or more
pub record Room (n : ℕ) (c : Columns) : Type 0 where
  pub demands : n ≤ length c.demand
  pub services : n ≤ length c.service
  pub readies : n ≤ length c.ready
  pub dues : n ≤ length c.due
  pub penalties : n ≤ length c.penalty
  pub flag_cells : n ≤ length c.flags

-- each of them has as many cells as it had first
pub record Sizes (c first : Columns) : Type 0 where
  pub demands : length c.demand ≡ length first.demand
  pub services : length c.service ≡ length first.service
  pub readies : length c.ready ≡ length first.ready
  pub dues : length c.due ≡ length first.due
  pub penalties : length c.penalty ≡ length first.penalty
  pub flag_cells : length c.flags ≡ length first.flags

-- the slices are still the same ones
pub record Keeps (old new : Lent) : Type 0 where
  pub same_demand : new.demand.ghost_name ≡ old.demand.ghost_name
  pub same_service : new.service.ghost_name ≡ old.service.ghost_name
  pub same_ready : new.ready.ghost_name ≡ old.ready.ghost_name
  pub same_due : new.due.ghost_name ≡ old.due.ghost_name
  pub same_penalty : new.penalty.ghost_name ≡ old.penalty.ghost_name
  pub same_flags : new.flags.ghost_name ≡ old.flags.ghost_name
  pub sizes : Sizes (of_columns new) (of_columns old)

pub keeps_same : (c : Lent) → Keeps c c
keeps_same c =
    record {
      same_demand = refl;
      same_service = refl;
      same_ready = refl;
      same_due = refl;
      same_penalty = refl;
      same_flags = refl;
      sizes = record { demands = refl; services = refl; readies = refl; dues = refl; penalties = refl; flag_cells = refl };
    }

pub keeps_on : {a b c : Lent} → Keeps a b → Keeps b c → Keeps a c
keeps_on f g =
    let x = f.sizes in
    let y = g.sizes in
    record {
      same_demand = g.same_demand ∙ f.same_demand;
      same_service = g.same_service ∙ f.same_service;
      same_ready = g.same_ready ∙ f.same_ready;
      same_due = g.same_due ∙ f.same_due;
      same_penalty = g.same_penalty ∙ f.same_penalty;
      same_flags = g.same_flags ∙ f.same_flags;
      sizes = record {
        demands = y.demands ∙ x.demands;
        services = y.services ∙ x.services;
        readies = y.readies ∙ x.readies;
        dues = y.dues ∙ x.dues;
        penalties = y.penalties ∙ x.penalties;
        flag_cells = y.flag_cells ∙ x.flag_cells;
      };
    }

pub room_kept : {old new : Lent} {n m : ℕ} → Room n (of_columns old) → Keeps old new → m ≤ n → Room m (of_columns new)
room_kept room k h =
    let s = k.sizes in
    record {
      demands = omega (arith, room.demands, s.demands, h);
      services = omega (arith, room.services, s.services, h);
      readies = omega (arith, room.readies, s.readies, h);
      dues = omega (arith, room.dues, s.dues, h);
      penalties = omega (arith, room.penalties, s.penalties, h);
      flag_cells = omega (arith, room.flag_cells, s.flag_cells, h);
    }

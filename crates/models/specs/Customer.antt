-- The places' records, lent as a slice for each field (models/customer.rs, `Customer`). Assumes nothing.
use Rattle.std.specs.Prelude.{ℕ, ◌/◌, ◌%◌, ◌≡◌, List, Bool, cond, length, get_or, eqb, Float, Option, Some, None}
use Rattle.std.specs.Float.{nan}
use Rattle.models.specs.declared.customer.TimeWindow.{TimeWindow}
use Rattle.models.specs.declared.customer.Customer.{Customer}

-- what the evaluation of a route reads of the places
pub record Customers : Type 0 where
  pub service : List Float
  pub ready : List Float
  pub due : List Float
  pub penalty : List Float
  pub flags : List ℕ

abbrev pub customers : List Float → List Float → List Float → List Float → List ℕ → Customers
customers service ready due penalty flags = record { service = service; ready = ready; due = due; penalty = penalty; flags = flags }

-- each slice has a cell for each of n places
pub record Sized (cs : Customers) (n : ℕ) : Type 0 where
  pub service_cells : length cs.service ≡ n
  pub ready_cells : length cs.ready ≡ n
  pub due_cells : length cs.due ≡ n
  pub penalty_cells : length cs.penalty ≡ n
  pub flag_cells : length cs.flags ≡ n

-- "flags (bit 0 window, bit 1 penalty; a value whose flag is clear is not read)"
abbrev pub windowed : ℕ → Bool
windowed flag = eqb (flag % 2) 1

abbrev pub penalised : ℕ → Bool
penalised flag = eqb (flag / 2 % 2) 1

abbrev pub window_at : List Float → List Float → List ℕ → ℕ → Option TimeWindow
window_at ready due flags c = cond (windowed (get_or flags c 0)) (Some (record { ready = get_or ready c nan; due = get_or due c nan })) None

abbrev pub penalty_at : List Float → List ℕ → ℕ → Option Float
penalty_at penalty flags c = cond (penalised (get_or flags c 0)) (Some (get_or penalty c nan)) None

-- place c as one value
abbrev pub customer_at : Customers → ℕ → Customer
customer_at cs c =
    record {
      service_duration = get_or cs.service c nan;
      time_window = window_at cs.ready cs.due cs.flags c;
      lateness_penalty = penalty_at cs.penalty cs.flags c;
    }

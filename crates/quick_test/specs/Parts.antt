-- The parts of the quick test that have a function of their own. Assumes nothing.
use Rattle.std.specs.Prelude.{ℕ, List, Bool, true, false, cond, length, get_or, ltb, Float, Option}
use Rattle.std.specs.Prelude.{Option, None, Some}
use Rattle.std.specs.Float.{nan}
use Rattle.std.specs.Float.Ieee.{lt}
use Rattle.insertion_cost.specs.floats.Binary64.{◌⊕◌, -∞, min}
use Rattle.insertion_cost.specs.models.Customer.{Customers, customer_at}
use Rattle.insertion_cost.specs.models.Problem.{DistanceMatrix}
use Rattle.insertion_cost.specs.distance.Matrix.{travel_time}
use Rattle.quick_test.specs.Quick.{served_at, earliest_start, latest_start, in_time}
use Rattle.insertion_cost.specs.models.declared.customer.TimeWindow.{TimeWindow}

-- the drive from prev, left at `time`, to c and the service there
unfoldable pub leave : Customers → DistanceMatrix → Float → ℕ → ℕ → Option Float
leave cs m time prev c = served_at (time ⊕ travel_time m prev c) (customer_at cs c)

-- what a Bool and a value say together: the value, where it is true
abbrev pub told : {A : Type 0} → Bool → A → Option A
told true a = Some a
told false a = None

-- how late a stop with this window may be reached where its service has to start by start-by
unfoldable pub latest_in : Float → Option TimeWindow → Float
latest_in start-by window = cond (lt start-by (earliest_start window)) -∞ (min (latest_start window) start-by)

-- the stop at pos, if there is one, is reached in time from c, left at `left`
unfoldable pub next_in_time : DistanceMatrix → List ℕ → List Float → ℕ → ℕ → Float → Bool
next_in_time m route latest pos c left =
    cond (ltb pos (length route)) (in_time (left ⊕ travel_time m c (get_or route pos 0)) (get_or latest pos nan)) true

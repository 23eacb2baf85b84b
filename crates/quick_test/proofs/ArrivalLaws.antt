-- A law of specs/Quick on the latest arrival at one stop, from the facts that the code has where it needs it. Assumes nothing.
use Prim.Native.Nat.{ℕ}
use mathlib.Core.Path.{◌≡◌}
use lib.Ieee.{Float}
use Rattle.insertion_cost.specs.floats.Binary64.{◌⊖◌}
use Rattle.insertion_cost.specs.models.declared.customer.Customer.{Customer}
use Rattle.insertion_cost.specs.models.Problem.{DistanceMatrix}
use Rattle.insertion_cost.specs.distance.Matrix.{travel_time}
use Rattle.quick_test.specs.Quick.{latest_arrival}
use Rattle.quick_test.specs.Parts.{latest_in}

pub latest_is : (m : DistanceMatrix) (customer cu : Customer) (c next : ℕ) (by travel v : Float) → travel ≡ travel_time m c next → cu ≡ customer
    → v ≡ latest_in (by ⊖ travel ⊖ cu.service_duration) cu.time_window → v ≡ latest_arrival m customer c next by
unfolding latest_arrival latest_in
latest_is m customer cu c next by travel v et ec ev = rw (← et, ← ec) ev

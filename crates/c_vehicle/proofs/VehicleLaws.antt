-- The vehicle of numbers, as the code makes it. Assumes nothing.
use Prim.Native.Nat.{ℕ}
use mathlib.Core.Path.{◌≡◌, ap, ◌∙◌}
use lib.IntN.{ℤ}
use lib.Ieee.{Float}
use mir.Syntax.{w32}
use mir.Val.{SFits, to_z, of_z}
use mir.Facts.{to_z-of_z}
use Rattle.models.specs.declared.vehicle.Vehicle.{Vehicle}
use Rattle.c_vehicle.specs.VehicleOf.{vehicle_of}

module _ (capacity : ℤ) (depot : ℕ) (fixed rate : Float) (given : ℕ) (distance-limit duration-limit earliest latest duration : Float) where
  -- an i32 that is passed on is read off its bits
  pub vehicle_kept : SFits w32 capacity → (v : Vehicle)
      → v ≡ vehicle_of (to_z w32 (of_z w32 capacity)) depot fixed rate given distance-limit duration-limit earliest latest duration
      → v ≡ vehicle_of capacity depot fixed rate given distance-limit duration-limit earliest latest duration
  vehicle_kept f v e = e ∙ ap (λ (z : ℤ). vehicle_of z depot fixed rate given distance-limit duration-limit earliest latest duration) (to_z-of_z f)

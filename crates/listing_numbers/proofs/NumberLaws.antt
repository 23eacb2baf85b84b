-- Numbers as the library prints them are those of the definitions. Assumes nothing.
use Prim.Native.Nat.{ℕ, suc, ◌^◌, ◌<◌}
use mathlib.Core.Path.{◌≡◌, ap, sym}
use mathlib.Core.List.{List, ◌∷◌}
use native.Mathlib.Omega.{arith}
use borrow.Author.Tests.{lt-ltb, le-ltb}
use lib.IntN.{ℤ, pos, negsuc}
use mir.Syntax.{w32, w64}
use mir.Val.{Fits, SFits, to_z, of_z}
use mir.Facts.{to_z-of_z}
use Rattle.std.specs.Fmt.{decimal as Fmt·decimal, signed_decimal}
use Rattle.std.proofs.lemmas.Fmt.{AppendsLastDigit, decimal_from_appends, length-decimal-le}
use Rattle.listing.specs.Decimal.{digits, decimal, signed}

by_last_digit : AppendsLastDigit digits
unfolding digits
by_last_digit = record { one = λ k n h. rw (lt-ltb n 10 h); more = λ k n h. rw (le-ltb n 10 h) }

decimal_is : (n : ℕ) → n < 2 ^ 64 → Fmt·decimal n ≡ decimal n
decimal_is n h = sym (decimal_from_appends digits by_last_digit 20 n h (length-decimal-le 20 n (omega arith) (omega arith) h))

pub decimal_prints : (n : ℕ) → Fits w64 n → Fmt·decimal n ≡ decimal n
decimal_prints n f = decimal_is n (omega (arith, f.fits))

signed_is : (v : ℤ) → SFits w32 v → signed_decimal v ≡ signed v
unfolding signed
signed_is (pos n) f = decimal_is n (omega (arith, f.sfits))
signed_is (negsuc n) f = ap (λ (ds : List ℕ). 45 ∷ ds) (decimal_is (suc n) (omega (arith, f.sfits)))

-- of its bits, as it is handed on
pub signed_prints : (v : ℤ) → SFits w32 v → signed_decimal (to_z w32 (of_z w32 v)) ≡ signed v
signed_prints v f = rw (to_z-of_z f) (signed_is v f)

pub signed_handed : (v : ℤ) → SFits w32 v → signed (to_z w32 (of_z w32 v)) ≡ signed v
signed_handed v f = ap signed (to_z-of_z f)

-- A text in the slice that is lent: there is no room, or it is written. Assumes nothing.
use Prim.Native.Nat.{ℕ, ◌≤◌, ◌<◌}
use mathlib.Core.Path.{◌≡◌, refl, sym, ap, ◌∙◌}
use mathlib.Core.Bool.{Bool, true, false, cond}
use mathlib.Core.List.{List}
use Rattle.std.specs.Prelude.{Option, None, Some}
use native.Mathlib.Omega.{arith}
use borrow.Author.Tests.{lt-ltb, le-ltb, ltb-false}
use lib.Dec.{ltb}
use lib.ListN.{length, take}
use lib.Seq.{sets, length-take-le}
use Rattle.sheet_listing.specs.listing.Written.{Written}
use Rattle.sheet_planner.specs.Output.{Output, output, into}
use Rattle.sheet_listing.specs.sheet_answers.Printed.{printed}
use Rattle.sheet_listing.specs.SheetAnswersFits.{printed_fits}

module _ (out text : List ℕ) where
  pub no_room : length out < 6000 → output None out ≡ into out text
  unfolding into
  no_room h = rw (lt-ltb (length out) 6000 h)

  pub has_room : (after : List ℕ) (r : ℕ) → 6000 ≤ length out → Written out 0 text after r → output (Some r) after ≡ into out text
  unfolding into
  has_room after r h w =
      let e : r ≡ length text = omega (arith, w.place) in
      rw (le-ltb (length out) 6000 h, e, w.bytes_are)

-- as many bytes as are printed are in the slice
pub bytes_there : (out s after : List ℕ) (r : Option ℕ) (n : ℕ) → r ≡ Some n → output r after ≡ into out (printed s) → length after ≡ length out → n ≤ length after
unfolding into
bytes_there out s after r n e f g = go (ltb (length out) 6000) refl (sym e ∙ ap (λ (o : Output). o.answer) f)
  where
    go : (b : Bool) → ltb (length out) 6000 ≡ b → Some n ≡ (cond b (output None out) (output (Some (length (printed s))) (sets out 0 (printed s)))).answer → n ≤ length after
    go true h a =
        let z : ◌≡◌ {A = ℕ} 0 1 = cc in
        absurd (omega arith)
    go false h a =
        let b : n ≡ length (printed s) = cc in
        omega (arith, b, printed_fits s, ltb-false (length out) 6000 h, g)

pub bytes_counted : (out s after : List ℕ) (r : Option ℕ) (n : ℕ) → r ≡ Some n → output r after ≡ into out (printed s) → length after ≡ length out → n ≡ length (take n after)
bytes_counted out s after r n e f g = sym (length-take-le n after (bytes_there out s after r n e f g))

-- Laws of specs/Eject, each from the facts that the code has where it needs it. Assumes nothing.
use Prim.Native.Nat.{ℕ, ◌+◌, ◌-◌, ◌≤◌, ◌<◌}
use native.Mathlib.Nat.{zero-add}
use native.Mathlib.Numerals.{add-one}
use native.Mathlib.Omega.{arith}
use mathlib.Core.Path.{◌≡◌}
use mathlib.Core.List.{List, ◌++◌, append_assoc}
use lib.ListN.{length, take, drop, length-append, length-take, length-drop}
use lib.Seq.{paste, take_at, take_all, length-take-le}
use Rattle.insertion.specs.laws.Lists.{paste_on}
use Rattle.ejection.specs.Eject.{kept}

-- ---- the kept part: the front, what lies between, and the rest, copied one after the other

pub kept_copied : (w r : List ℕ) (i j m : ℕ) (W1 W2 W3 : List ℕ) → i ≤ j → j < length r → m ≡ j - (i + 1)
    → W1 ≡ paste w 0 (drop 0 r) i → W2 ≡ paste W1 i (drop (i + 1) r) m → W3 ≡ paste W2 (i + m) (drop (j + 1) r) (length r - (j + 1))
    → take (i + m + (length r - (j + 1))) W3 ≡ kept i j r
unfolding kept
kept_copied w r i j m W1 W2 W3 h k em e1 e2 e3 =
    let a : List ℕ = take i r in
    let b : List ℕ = take m (drop (i + 1) r) in
    let n = length r - (j + 1) in
    let l1 : length a ≡ i = length-take-le i r (omega arith) in
    let l2 : length (a ++ b) ≡ i + m = simp (length-append, length-take, length-drop) (omega arith) in
    let t : take n (drop (j + 1) r) ≡ drop (j + 1) r = take_all n (drop (j + 1) r) (rw length-drop (omega arith)) in
    let l3 : length ((a ++ b) ++ drop (j + 1) r) ≡ i + m + n = rw (length-append (a ++ b) (drop (j + 1) r), l2, length-drop (j + 1) r) in
    let d1 : W1 ≡ a ++ drop i w = rw (e1, zero-add) in
    let d2 : W2 ≡ (a ++ b) ++ drop (i + m) w = rw (e2, d1, paste_on w a (drop (i + 1) r) i m l1) in
    let d3 : W3 ≡ ((a ++ b) ++ drop (j + 1) r) ++ drop (i + m + n) w = rw (e3, d2, paste_on w (a ++ b) (drop (j + 1) r) (i + m) n l2, t) in
    rw (d3, take_at ((a ++ b) ++ drop (j + 1) r) (drop (i + m + n) w) (i + m + n) l3, append_assoc a b (drop (j + 1) r), em, add-one i, add-one j)

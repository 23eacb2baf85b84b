-- Texts that are written one behind the other, and stops one by one. Assumes nothing.
use Prim.Native.Nat.{ℕ, suc, ◌+◌, ◌≤◌, ◌<◌}
use mathlib.Core.Path.{◌≡◌, refl, ap, ◌∙◌}
use mathlib.Core.List.{List, [], ◌∷◌, ◌++◌}
use native.Mathlib.Omega.{arith}
use native.Mathlib.Nat.{add-zero}
use native.Mathlib.Numerals.{add-one}
use lib.ListN.{length, set, get_or, drop, length-append, length-set, drop_of_length-le}
use lib.Seq.{sets, drop-cons}
use Rattle.listing.specs.Listing.{stop, stops}
use Rattle.listing.specs.Written.{Written}

-- a run of stores behind another
sets_append : {A : Type 0} (l : List A) (i : ℕ) (vs ws : List A) → sets (sets l i vs) (i + length vs) ws ≡ sets l i (vs ++ ws)
sets_append l i [] ws = ap (λ (k : ℕ). sets l k ws) (add-zero i)
sets_append l i (a ∷ vs) ws =
    let e : i + suc (length vs) ≡ suc i + length vs = omega arith in
    rw e (sets_append (set l i a) (suc i) vs ws)

sets_length : {A : Type 0} (l : List A) (i : ℕ) (vs : List A) → length (sets l i vs) ≡ length l
sets_length l i [] = refl
sets_length l i (a ∷ vs) = sets_length (set l i a) (suc i) vs ∙ length-set l i a

pub written_length : {l : List ℕ} {at : ℕ} {x m : List ℕ} {p : ℕ} → Written l at x m p → length m ≡ length l
written_length {l} {at} {x} w = ap length w.bytes_are ∙ sets_length l at x

-- two texts, one behind the other
pub written_both : (l : List ℕ) (at : ℕ) (x m : List ℕ) (p : ℕ) (y n : List ℕ) (q : ℕ) → Written l at x m p → Written m p y n q → Written l at (x ++ y) n q
written_both l at x m p y n q a b =
    record {
      bytes_are =
          b.bytes_are
          ∙ ap (λ (z : List ℕ). sets z p y) a.bytes_are
          ∙ ap (λ (k : ℕ). sets (sets l at x) k y) a.place
          ∙ sets_append l at x y;
      place = omega (arith, a.place, b.place, length-append x y);
    }

pub written_none : (l : List ℕ) (at : ℕ) → Written l at [] l at
written_none l at = record { bytes_are = refl; place = omega arith }

-- ---- stops

module _ (ss : List ℕ) (i : ℕ) where
  pub stops_more : i < length ss → stops (drop i ss) ≡ stop (get_or ss i 0) ++ stops (drop (i + 1) ss)
  unfolding stops
  stops_more h = rw (add-one i, drop-cons ss i 0 h)

  pub stops_end : length ss ≤ i → stops (drop i ss) ≡ []
  unfolding stops
  stops_end h = rw (drop_of_length-le ss h)

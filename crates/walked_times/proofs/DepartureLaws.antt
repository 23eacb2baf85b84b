-- Laws of the definitions of `quick_test` (specs/Quick) on departures, each from the facts that the code has where it needs it. Assumes nothing.
use Rattle.std.specs.Prelude.{Option, Some, None}
use Prim.Native.Nat.{ℕ, ◌+◌, ◌<◌}
use native.Mathlib.Numerals.{add-one}
use native.Mathlib.Omega.{arith}
use mathlib.Core.Path.{◌≡◌, refl, sym, ap, ◌∙◌}
use mathlib.Core.List.{List, [], ◌∷◌, ◌++◌, append_assoc, append-nil}
use lib.ListN.{length, get_or, take, drop, set, drop_of_length-le}
use lib.Seq.{drop-cons, take-suc-set}
use lib.Ieee.{Float}
use Rattle.latest_times.specs.floats.Binary64.{0f}
use Rattle.latest_times.specs.models.Customer.{Customers}
use Rattle.latest_times.specs.models.Problem.{DistanceMatrix, Stops}
use Rattle.latest_times.specs.quick_test.Quick.{then_on, departures_from, departures}
use Rattle.latest_times.specs.quick_test.Parts.{leave}

-- ---- the walk over the stops: those that are left already, then the others

abbrev after : List Float → Option (List Float) → Option (List Float)
after front None = None
after front (Some later) = Some (front ++ later)

after_nothing : (o : Option (List Float)) → o ≡ after [] o
after_nothing None = refl
after_nothing (Some later) = refl

after_one : (front : List Float) (time : Float) (on : Float → Option (List Float)) → after front (then_on (Some time) on) ≡ after (front ++ (time ∷ [])) (on time)
after_one front time on = go (on time)
  where
    go : (o : Option (List Float)) → after front (then_on (Some time) (λ t. o)) ≡ after (front ++ (time ∷ [])) o
    go None = refl
    go (Some later) = ap Some (sym (append_assoc front (time ∷ []) later))

-- the first i cells are the departures so far, and the stops from i on give the others
pub record Leaving (cs : Customers) (m : DistanceMatrix) (depot : ℕ) (route : List ℕ) (out : List Float) (time : Float) (prev i : ℕ) : Type 0 where
  pub there : prev < m.size
  pub same : departures cs m depot route ≡ after (take i out) (departures_from cs m time prev (drop i route))

module _ (cs : Customers) (m : DistanceMatrix) (depot : ℕ) (route : List ℕ) (out : List Float) where
  pub leaving_start : depot < m.size → Leaving cs m depot route out 0f depot 0
  leaving_start h = record { there = h; same = after_nothing (departures cs m depot route) }

  module _ (time : Float) (prev i : ℕ) (l : Leaving cs m depot route out time prev i) where
    module _ (s : Option Float) (h : i < length route) (es : s ≡ leave cs m time prev (get_or route i 0)) where
      one : departures_from cs m time prev (drop i route) ≡ then_on s (λ t. departures_from cs m t (get_or route i 0) (drop (i + 1) route))
      unfolding departures_from leave
      one = rw (drop-cons route i 0 h, add-one i, es)

      pub leaving_missed : s ≡ None → departures cs m depot route ≡ None
      leaving_missed e =
          l.same ∙ ap (after (take i out)) (one ∙ ap (λ (x : Option Float). then_on x (λ t. departures_from cs m t (get_or route i 0) (drop (i + 1) route))) e)

      pub leaving_on : (t : Float) → Stops m.size route → i < length out → s ≡ Some t → Leaving cs m depot route (set out i t) t (get_or route i 0) (i + 1)
      leaving_on t places inside e =
          let later : Float → Option (List Float) = λ u. departures_from cs m u (get_or route i 0) (drop (i + 1) route) in
          let grown : take i out ++ (t ∷ []) ≡ take (i + 1) (set out i t) = sym (rw (add-one i) (take-suc-set out i t inside)) in
          record {
            there = places.each i h;
            same =
                l.same
                ∙ ap (after (take i out)) (one ∙ ap (λ (x : Option Float). then_on x later) e)
                ∙ after_one (take i out) t later
                ∙ ap (λ (front : List Float). after front (later t)) grown;
          }

    pub leaving_end : i ≡ length route → departures cs m depot route ≡ Some (take (length route) out)
    unfolding departures_from
    leaving_end e =
        l.same
        ∙ ap (λ (rest : List ℕ). after (take i out) (departures_from cs m time prev rest)) (drop_of_length-le route (omega arith))
        ∙ ap Some (append-nil (take i out))
        ∙ ap (λ (k : ℕ). Some (take k out)) e

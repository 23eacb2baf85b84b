-- Laws of specs/Prepared, each from the facts that the code has where it needs it. Assumes nothing.
use Prim.Native.Nat.{ℕ}
use mathlib.Core.Path.{◌≡◌, sym, ◌∙◌}
use mathlib.Core.Bool.{Bool, true, true≢false}
use mathlib.Core.List.{List}
use Rattle.walked_times.specs.models.Problem.{Problem, depot}
use Rattle.walked_times.specs.route_load.Feasible.{constrained}
use Rattle.walked_times.specs.quick_test.Quick.{Times, departures, latest_arrivals, with_latest, times}
use Rattle.walked_times.specs.quick_test.Parts.{told}
use Rattle.route_times.specs.Prepared.{Prepared}

-- where the check is needed
pub prepared_made : (p : Problem) (route : List ℕ) (needed : Bool) (t : Times) (v : Bool) → needed ≡ constrained p → needed ≡ true
    → with_latest (latest_arrivals p.places p.roads (depot p) route) (departures p.places p.roads (depot p) route) ≡ told v t
    → Prepared p route v t
unfolding times
prepared_made p route needed t v e n h = record { needed = λ k. rw k h; unneeded = λ k. absurd (true≢false (sym n ∙ e ∙ k)) }

-- The tests of a position, the load aside: the load test is made once for a route, before its positions. Assumes nothing.
use Rattle.std.specs.Prelude.{ℕ, ◌≡◌, refl, Bool, true, false, cond, not, ◌&&◌, ◌||◌, List, [], take, Float}
use Rattle.std.proofs.Common.{ap}
use Rattle.std.specs.Prelude.{Option, Some}
use Rattle.route_times.specs.laws.Edits.{insert_at}
use Rattle.route_times.specs.models.Problem.{Problem, depot, problem_of}
use Rattle.route_times.specs.route_cost.declared.Insertion.{Insertion}
use Rattle.route_times.specs.route_cost.Route.{insertion_cost}
use Rattle.route_times.specs.route_load.Feasible.{constrained, has_room, checked}
use Rattle.route_times.specs.RouteLoadFeasibleLaws.{trial_within}
use Rattle.route_times.specs.quick_test.Quick.{may_fit, Times}
use Rattle.route_times.specs.declared.Times.{Times as Cells}
use Rattle.route_times.specs.Prepared.{held}
use Rattle.insertion.specs.Cheapest.{may_go_in, cheaper, try_position}

-- the departures and the latest arrivals of a route of m stops: the first m of each list
abbrev pub first_times : ℕ → List Float → List Float → Times
first_times m departures latest = record { departures = take m departures; latest = take m latest }

-- in work cells they are those that are held
pub held_first : (m : ℕ) (cells : Cells) → held m cells ≡ first_times m cells.departures.now cells.latest.now
held_first m cells = refl

-- the quick test, where it is needed
abbrev pub quick : Problem → List ℕ → Times → ℕ → ℕ → Bool
quick p r t pos c = not (constrained p) || may_fit p.places p.roads (depot p) r t.departures t.latest pos c

-- the quick test and then the check, where they are needed
unfoldable pub may_pass : Problem → List ℕ → Times → ℕ → ℕ → Bool
may_pass p r t pos c = quick p r t pos c && checked p (insert_at pos c r)

-- with room for c these are all the tests
pub may_pass_room : (p : Problem) (r : List ℕ) (t : Times) (pos c : ℕ) → has_room p r c ≡ true → may_pass p r t pos c ≡ may_go_in p r t pos c
unfolding may_pass may_go_in
may_pass_room p r t pos c h =
    ap (λ (b : Bool). quick p r t pos c && b) (trial_within p pos c r (has_room p r c) refl (checked p (insert_at pos c r)) h refl)

-- no demand is read
pub may_pass_any : (p : Problem)
    (r : List ℕ) (t : Times) (pos c : ℕ)
    → may_pass (problem_of [] p.places p.roads p.vehicle) r t pos c
    ≡ may_pass p r t pos c
unfolding may_pass
may_pass_any p r t pos c = refl

-- where the check is not needed the times are not read
pub may_go_in_untimed : (p : Problem) (r : List ℕ) (t u : Times) (pos c : ℕ) → constrained p ≡ false → may_go_in p r t pos c ≡ may_go_in p r u pos c
unfolding may_go_in
may_go_in_untimed p r t u pos c e = rw e

-- ---- a turn of the loop over positions of a route that has room for c

unfoldable pub pass_position : Problem → ℕ → ℕ → List ℕ → Times → ℕ → Option Insertion → Option Insertion
pass_position p c k r t pos best =
    let x = insertion_cost p.roads (depot p) r pos c in
    cond (cheaper x best) (cond (may_pass p r t pos c) (Some (record { cost = x; route = k; pos = pos })) best) best

pub pass_position_room : (p : Problem) (c k : ℕ) (r : List ℕ) (t : Times) (pos : ℕ) (best : Option Insertion) → has_room p r c ≡ true
    → pass_position p c k r t pos best ≡ try_position p c k r t pos best
unfolding pass_position try_position
pass_position_room p c k r t pos best h = rw (may_pass_room p r t pos c h)

pub try_position_untimed : (p : Problem) (c k : ℕ) (r : List ℕ) (t u : Times) (pos : ℕ) (best : Option Insertion) → constrained p ≡ false
    → try_position p c k r t pos best ≡ try_position p c k r u pos best
unfolding try_position
try_position_untimed p c k r t u pos best e = rw (may_go_in_untimed p r t u pos c e)

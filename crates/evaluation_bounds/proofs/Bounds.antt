-- On a valid problem every number of an evaluation is finite, has its sign clear and is no NaN, with bounds that are stated: with amounts of
-- at most 2 ^ 40 and k stops served, a label's time is at most 4 k of them (travel, break, wait and service at each stop), its lateness at most
-- 1028 k, and its lateness cost at most 1028 k times 2 ^ 80. So nothing overflows for 256 stops. Assumes nothing.
use Rattle.std.specs.Prelude.{Option, Some, None}
use Prim.Native.Nat.{ℕ, suc, ◌+◌, ◌*◌, ◌<◌}
use native.Mathlib.Omega.{arith}
use mathlib.Core.Path.{◌≡◌, refl, sym, subst, ◌∙◌}
use mathlib.Core.Bool.{Bool, true, false, false≢true, ◌||◌}
use mathlib.Core.List.{List}
use lib.ListN.{length, get_or}
use lib.Dec.{eqb, lit≤}
use lib.Ieee.{Float, nan, lt, le, is_nan}
use borrow.Author.Tests.{eq-eqb}
use Rattle.lateness_bound.specs.floats.Binary64.{◌⊕◌, max}
use Rattle.lateness_bound.specs.floats.Order.{le_of_lt_true}
use Rattle.lateness_bound.specs.floats.Upto.{Upto, upto_add, upto_sub, upto_mul, upto_more, upto_as, upto_zero, upto_max, upto_not_nan}
use Rattle.lateness_bound.specs.floats.Difference.{upto_late}
use Rattle.lateness_bound.specs.floats.Whole.{nat_upto}
use Rattle.lateness_bound.specs.floats.Inputs.{Amount}
use Rattle.lateness_bound.specs.laws.All.{All, all_of}
use Rattle.lateness_bound.specs.laws.Loops.{loop, cond_rule, loop_rule, foldl_rule}
use Rattle.lateness_bound.specs.laws.Walks.{walk_count_rule}
use Rattle.lateness_bound.specs.laws.Matrix.{in_matrix}
use Rattle.lateness_bound.specs.models.declared.customer.TimeWindow.{TimeWindow}
use Rattle.lateness_bound.specs.models.declared.customer.Customer.{Customer}
use Rattle.lateness_bound.specs.models.declared.vehicle.VehicleBreak.{VehicleBreak}
use Rattle.lateness_bound.specs.models.declared.limits.RouteLimits.{RouteLimits}
use Rattle.lateness_bound.specs.models.TimeWindow.{waiting_time, is_violated, lateness}
use Rattle.lateness_bound.specs.models.Customer.{Customers, window_at, penalty_at, customer_at, windowed, penalised}
use Rattle.lateness_bound.specs.models.RouteLimits.{allow}
use Rattle.lateness_bound.specs.models.Problem.{DistanceMatrix, Problem, Fit, Stops}
use Rattle.lateness_bound.specs.models.Valid.{valid}
use Rattle.lateness_bound.specs.ModelsValidLaws.{Floats, valid_square, valid_service, valid_distances, valid_times, valid_window, valid_penalty}
use Rattle.lateness_bound.specs.distance.Matrix.{get, travel_time, largest}
use Rattle.lateness_bound.specs.break_clock.declared.route_eval.RouteEval.{RouteEval}
use Rattle.lateness_bound.specs.evaluation.declared.eval.Walk.{Walk}
use Rattle.lateness_bound.specs.labels.declared.Label.{Label}
use Rattle.lateness_bound.specs.break_clock.declared.schedule.BreakClock.{BreakClock}
use Rattle.lateness_bound.specs.break_clock.declared.schedule.Riding.{Riding}
use Rattle.lateness_bound.specs.labels.Labels.{START, too_late, at_window, serve_at, serve, served_from, sooner, earlier, lives}
use Rattle.lateness_bound.specs.break_clock.Schedule.{push, ended, finish_after, finish_before, finish, set_out as ride-out, pushed, ride, onward as ride-onward, ride_all, ride_home, homeward as ride-homeward, schedule}
use Rattle.lateness_bound.specs.evaluation.Eval.{limited, set_out, walked, drive, onward, drive_all, home, homeward, eval_with, route_eval, worth, effective_cost}
use Rattle.lateness_bound.specs.evaluation.Check.{has_soft_windows}
use Rattle.lateness_bound.specs.Bound.{with_window, with_penalty, later_window, dearer_penalty, latest_window, dearest_penalty, slowest, lateness_bound}
use Rattle.lateness_bound.specs.BreakClockStopLaws.{stops_all}
use Rattle.lateness_bound.specs.BreakClockScheduleLaws.{ridden_cases}
use Rattle.lateness_bound.specs.RouteWorthEvalLaws.{walked_cases}

-- ---- amounts

-- an amount is at most 2 ^ 40, the unit of what follows
unit : {x : Float} → Amount x → Upto 40 1 x
unit u = upto_as 40 1 u (lit≤ tt)

abbrev WindowAmounts : Option TimeWindow → Type 0
WindowAmounts None = Unit
WindowAmounts (Some w) = Amount w.ready × Amount w.due

abbrev PenaltyAmount : Option Float → Type 0
PenaltyAmount None = Unit
PenaltyAmount (Some each) = Amount each

-- a break's three floats
abbrev pub RestAmounts : Option VehicleBreak → Type 0
RestAmounts None = Unit
RestAmounts (Some rest) = Amount rest.earliest × Amount rest.latest × Amount rest.duration

record CustomerAmounts (c : Customer) : Type 0 where
  service : Amount c.service_duration
  window : WindowAmounts c.time_window
  penalty : PenaltyAmount c.lateness_penalty

-- what the evaluation reads of places and matrix is an amount
pub record Amounts (cs : Customers) (m : DistanceMatrix) : Type 0 where
  pub distance : (a b : ℕ) → a < m.size → b < m.size → Amount (get m a b)
  pub travel : (a b : ℕ) → a < m.size → b < m.size → Amount (travel_time m a b)
  pub service : (c : ℕ) → c < m.size → Amount (get_or cs.service c nan)
  pub window : (c : ℕ) → c < m.size → windowed (get_or cs.flags c 0) ≡ true → Amount (get_or cs.ready c nan) × Amount (get_or cs.due c nan)
  pub penalty : (c : ℕ) → c < m.size → penalised (get_or cs.flags c 0) ≡ true → Amount (get_or cs.penalty c nan)

pub valid_amounts : (p : Problem) → valid p ≡ true → Floats p → Amounts p.places p.roads
valid_amounts p v f =
    let m = p.roads in
    let s = valid_square p v in
    let far : (a b : ℕ) → a < m.size → b < m.size → Amount (get m a b) =
    λ a b h k. valid_distances p v f (a * m.size + b) (rw s.distance_cells (in_matrix m.size a b h k)) in
    record {
      distance = far;
      travel = λ a b h k. go a b (eqb (length m.times) 0) refl (far a b h k)
          (λ e. valid_times p v f (a * m.size + b) (rw (s.time_cells (λ z. false≢true (sym e ∙ eq-eqb (length m.times) 0 z))) (in_matrix m.size a b h k)));
      service = valid_service p v f;
      window = valid_window p v f;
      penalty = valid_penalty p v f;
    }
  where
    go : (a b : ℕ) (t : Bool) → eqb (length p.roads.times) 0 ≡ t → Amount (get p.roads a b)
        → (eqb (length p.roads.times) 0 ≡ false → Amount (get_or p.roads.times (a * p.roads.size + b) nan)) → Amount (travel_time p.roads a b)
    go a b true e d t = rw e d
    go a b false e d t = rw e (t e)

module _ (cs : Customers) (m : DistanceMatrix) (a : Amounts cs m) where
  customer : (c : ℕ) → c < m.size → CustomerAmounts (customer_at cs c)
  customer c h =
      record {
        service = a.service c h;
        window = cond_rule WindowAmounts (windowed (get_or cs.flags c 0)) (λ e. a.window c h e) (λ _. tt);
        penalty = cond_rule PenaltyAmount (penalised (get_or cs.flags c 0)) (λ e. a.penalty c h e) (λ _. tt);
      }

-- ---- one stop

-- a label with k stops served
pub record Good (k : ℕ) (l : Label) : Type 0 where
  pub time : Upto 40 (4 * k) l.time
  pub late : Upto 40 (1028 * k) l.lateness
  pub cost : Upto 80 (1028 * k) l.lateness_cost

abbrev ServedGood : ℕ → Option Label → Type 0
ServedGood k None = Unit
ServedGood k (Some l) = Good k l

start_good : Good 0 START
start_good = record { time = upto_zero 40 0; late = upto_zero 40 0; cost = upto_zero 80 0 }

waiting : (w : TimeWindow) (at : Float) (n : ℕ) → Amount w.ready → Upto 40 n at → Upto 40 1 (waiting_time w at)
waiting w at n r u =
    cond_rule (Upto 40 1) (lt at w.ready) (λ e. upto_sub (unit r) u (le_of_lt_true at w.ready e) (lit≤ tt) (lit≤ tt)) (λ _. upto_zero 40 1)

module _ (k : ℕ) (few : k < 257) (l : Label) (g : Good k l) (ready : Float) (u : Upto 40 (4 * k + 2) ready) (taken : Option (ℕ × Float)) (c : Customer) (a : CustomerAmounts c) where
  -- in time, after a wait of up to `wait`
  kept : (time : Float) → Upto 40 (4 * suc k) time → Good (suc k) (record { time = time; lateness = l.lateness; lateness_cost = l.lateness_cost; rest = taken })
  kept time t = record { time = t; late = upto_more (1028 * suc k) g.late (omega arith); cost = upto_more (1028 * suc k) g.cost (omega arith) }

  delayed : (time late : Float) → Upto 40 (4 * suc k) time → Upto 40 1028 late → (q : Option Float) → PenaltyAmount q → ServedGood (suc k) (too_late l time late taken q)
  delayed time late t o None p = tt
  delayed time late t o (Some each) p =
      record {
        time = t;
        late = upto_more (1028 * suc k) (upto_add g.late o (lit≤ tt) (omega arith)) (omega arith);
        cost = upto_more (1028 * suc k) (upto_add g.cost (upto_mul (unit p) o (lit≤ tt) (lit≤ tt)) (lit≤ tt) (omega arith)) (omega arith);
      }

  at_good : (x : Option TimeWindow) → WindowAmounts x → ServedGood (suc k) (at_window l ready taken c x)
  at_good None w = kept (ready ⊕ c.service_duration) (upto_more (4 * suc k) (upto_add u (unit a.service) (lit≤ tt) (omega arith)) (omega arith))
  at_good (Some w) (r, d) =
      let wait = waiting w ready (4 * k + 2) r u in
      let time = upto_more (4 * suc k) (upto_add (upto_add u wait (lit≤ tt) (omega arith)) (unit a.service) (lit≤ tt) (omega arith)) (omega arith) in
      let late = upto_more 1028 (upto_late u d (lit≤ tt) (omega arith)) (omega arith) in
      cond_rule (ServedGood (suc k)) (is_violated w ready)
      (λ _. delayed (ready ⊕ waiting_time w ready ⊕ c.service_duration) (lateness w ready) time late c.lateness_penalty a.penalty)
      (λ _. kept (ready ⊕ waiting_time w ready ⊕ c.service_duration) time)

  serve_at_good : ServedGood (suc k) (serve_at l ready taken c)
  unfolding serve_at
  serve_at_good = at_good c.time_window a.window

-- ---- the walk of `route_eval`

record WalkGood (n k : ℕ) (w : Walk) : Type 0 where
  label : Good k w.label
  distance : Upto 40 k w.distance
  there : w.prev < n

abbrev WalkedGood : ℕ → ℕ → Option Walk → Type 0
WalkedGood n k None = Unit
WalkedGood n k (Some w) = WalkGood n k w

-- an evaluation of a route of k stops
pub record Bounded (k : ℕ) (e : RouteEval) : Type 0 where
  pub distance : Upto 40 (k + 1) e.distance
  pub duration : Upto 40 (4 * k + 1) e.duration
  pub lateness : Upto 40 (1028 * k) e.lateness
  pub cost : Upto 80 (1028 * k) e.lateness_cost

abbrev EvalBounded : ℕ → Option RouteEval → Type 0
EvalBounded k None = Unit
EvalBounded k (Some e) = Bounded k e

ended_bounded : (k : ℕ) → k < 257 → (l : Label) → Good k l → (distance back : Float) → Upto 40 (k + 1) distance → Amount back → (taken : Option (ℕ × Float))
    → EvalBounded k (ended l distance (l.time ⊕ back) taken)
ended_bounded k few l g distance back u b taken =
    record { distance = u; duration = upto_add g.time (unit b) (lit≤ tt) (omega arith); lateness = g.late; cost = g.cost }

module _ (cs : Customers) (m : DistanceMatrix) (a : Amounts cs m) where
  walked_good : (k : ℕ) (c : ℕ) (d : Float) → c < m.size → Upto 40 (suc k) d → (s : Option Label) → ServedGood (suc k) s → WalkedGood m.size (suc k) (walked d c s)
  walked_good k c d h u None g = tt
  walked_good k c d h u (Some l) g = record { label = g; distance = u; there = h }

  drive_good : (k : ℕ) (w : Walk) (c : ℕ) → k < 256 → c < m.size → WalkGood m.size k w → WalkedGood m.size (suc k) (drive cs m w c)
  unfolding drive
  drive_good k w c few h g =
      let d = upto_more (suc k) (upto_add g.distance (unit (a.distance w.prev c g.there h)) (lit≤ tt) (omega arith)) (omega arith) in
      let at = upto_more (4 * k + 2) (upto_add g.label.time (unit (a.travel w.prev c g.there h)) (lit≤ tt) (omega arith)) (omega arith) in
      walked_good k c (w.distance ⊕ get m w.prev c) h d (serve_at w.label (w.label.time ⊕ travel_time m w.prev c) None (customer_at cs c))
      (serve_at_good k (omega arith) w.label g.label (w.label.time ⊕ travel_time m w.prev c) at None (customer_at cs c) (customer cs m a c h))

  home_good : (k : ℕ) → k < 257 → (depot : ℕ) → depot < m.size → (limits : RouteLimits) (x : Option Walk) → WalkedGood m.size k x
      → EvalBounded k (homeward m depot limits x)
  unfolding home
  home_good k few depot h limits None g = tt
  home_good k few depot h limits (Some w) g =
      cond_rule (EvalBounded k) (allow limits (w.distance ⊕ get m w.prev depot) (w.label.time ⊕ travel_time m w.prev depot))
      (λ _. ended_bounded k few w.label g.label (w.distance ⊕ get m w.prev depot) (travel_time m w.prev depot)
      (upto_add g.distance (unit (a.distance w.prev depot g.there h)) (lit≤ tt) (omega arith)) (a.travel w.prev depot g.there h) None)
      (λ _. tt)

  plain_bounded : (depot : ℕ) → depot < m.size → (limits : RouteLimits) (route : List ℕ) → Stops m.size route
      → EvalBounded (length route) (homeward m depot limits (drive_all cs m route (set_out depot)))
  plain_bounded depot h limits route s =
      home_good (length route) (omega (arith, s.few)) depot h limits (drive_all cs m route (set_out depot))
      (walk_count_rule Some onward (drive cs m) None (λ w f. refl) (λ f. refl) walked_cases (WalkedGood m.size) (λ c. c < m.size) 256 (λ k. tt)
      (λ k w c few h g. drive_good k w c few h g) route (set_out depot) (stops_all m.size route s) s.few
      (record { label = start_good; distance = upto_zero 40 0; there = h }))

-- ---- the clock with a break

record RideGood (n k : ℕ) (r : Riding) : Type 0 where
  before : ServedGood k r.clock.before
  after : ServedGood k r.clock.after
  distance : Upto 40 k r.distance
  there : r.clock.prev < n

abbrev RiddenGood : ℕ → ℕ → Option Riding → Type 0
RiddenGood n k None = Unit
RiddenGood n k (Some r) = RideGood n k r

served_good : (k : ℕ) → k < 256 → (s : Option Label) → ServedGood k s → (travel : Float) → Amount travel → (i : ℕ) (rest : Option VehicleBreak) → RestAmounts rest
    → (c : Customer) → CustomerAmounts c → ServedGood (suc k) (served_from s travel i rest c)
unfolding serve
served_good k few None g travel t i rest r c a = tt
served_good k few (Some l) g travel t i None r c a =
    serve_at_good k (omega arith) l g (l.time ⊕ travel) (upto_more (4 * k + 2) (upto_add g.time (unit t) (lit≤ tt) (omega arith)) (omega arith)) l.rest c a
served_good k few (Some l) g travel t i (Some rest) (e, f, d) c a =
    let start = max (l.time ⊕ travel) rest.earliest in
    let begun = upto_max (upto_add g.time (unit t) (lit≤ tt) (omega arith)) (upto_more (4 * k + 1) (unit e) (omega arith)) in
    cond_rule (ServedGood (suc k)) (lt rest.latest start) (λ _. tt)
    (λ _. serve_at_good k (omega arith) l g (start ⊕ rest.duration) (upto_more (4 * k + 2) (upto_add begun (unit d) (lit≤ tt) (omega arith)) (omega arith)) (Some (i, start)) c a)

earlier_good : (k : ℕ) (x y : Option Label) → ServedGood k x → ServedGood k y → ServedGood k (earlier x y)
earlier_good k None y g h = h
earlier_good k (Some x) None g h = g
earlier_good k (Some x) (Some y) g h = cond_rule (ServedGood k) (sooner y x) (λ _. h) (λ _. g)

abbrev PushedGood : ℕ → ℕ → Option BreakClock → Type 0
PushedGood n k None = Unit
PushedGood n k (Some c) = ServedGood k c.before × ServedGood k c.after × (c.prev < n)

module _ (cs : Customers) (m : DistanceMatrix) (a : Amounts cs m) (b : VehicleBreak) (r : Amount b.earliest × Amount b.latest × Amount b.duration) where
  push_good : (k : ℕ) (j : BreakClock) (c : ℕ) → k < 256 → c < m.size → ServedGood k j.before → ServedGood k j.after → j.prev < m.size
      → PushedGood m.size (suc k) (push cs m b j c)
  unfolding push
  push_good k j c few h g f there =
      let travel = travel_time m j.prev c in
      let t = a.travel j.prev c there h in
      let cu = customer_at cs c in
      let on : (s : Option Label) (rest : Option VehicleBreak) → ServedGood k s → RestAmounts rest → ServedGood (suc k) (served_from s travel j.index rest cu) =
      λ s rest x y. served_good k few s x travel t j.index rest y cu (customer cs m a c h) in
      let skipped = served_from j.before travel j.index None cu in
      let here = served_from j.before travel j.index (Some b) cu in
      let carried = served_from j.after travel j.index None cu in
      cond_rule (PushedGood m.size (suc k)) (lives skipped || lives (earlier carried here))
      (λ _. (on j.before None g tt, earlier_good (suc k) carried here (on j.after None f tt) (on j.before (Some b) g r), h))
      (λ _. tt)

  pushed_good : (k : ℕ) (d : Float) → Upto 40 (suc k) d → (x : Option BreakClock) → PushedGood m.size (suc k) x → RiddenGood m.size (suc k) (pushed d x)
  pushed_good k d u None g = tt
  pushed_good k d u (Some c) (x, y, h) = record { before = x; after = y; distance = u; there = h }

  ride_good : (k : ℕ) (w : Riding) (c : ℕ) → k < 256 → c < m.size → RideGood m.size k w → RiddenGood m.size (suc k) (ride cs m b w c)
  unfolding ride
  ride_good k w c few h g =
      pushed_good k (w.distance ⊕ get m w.clock.prev c)
      (upto_more (suc k) (upto_add g.distance (unit (a.distance w.clock.prev c g.there h)) (lit≤ tt) (omega arith)) (omega arith))
      (push cs m b w.clock c) (push_good k w.clock c few h g.before g.after g.there)

  after_good : (k : ℕ) → k < 257 → (s : Option Label) → ServedGood k s → (distance back : Float) → Upto 40 (k + 1) distance → Amount back
      → EvalBounded k (finish_after s distance back)
  after_good k few None g distance back u t = tt
  after_good k few (Some l) g distance back u t = ended_bounded k few l g distance back u t l.rest

  before_good : (k : ℕ) → k < 257 → (s o : Option Label) → ServedGood k s → ServedGood k o → (distance back : Float) → Upto 40 (k + 1) distance → Amount back
      → EvalBounded k (finish_before s o b distance back)
  before_good k few None o g h distance back u t = after_good k few o h distance back u t
  before_good k few (Some l) o g h distance back u t =
      cond_rule (EvalBounded k) (le (l.time ⊕ back) b.earliest) (λ _. ended_bounded k few l g distance back u t None) (λ _. after_good k few o h distance back u t)

  ride_home_good : (k : ℕ) → k < 257 → (depot : ℕ) → depot < m.size → (x : Option Riding) → RiddenGood m.size k x → EvalBounded k (ride-homeward m b depot x)
  unfolding ride_home finish
  ride_home_good k few depot h None g = tt
  ride_home_good k few depot h (Some w) g =
      before_good k few w.clock.before w.clock.after g.before g.after (w.distance ⊕ get m w.clock.prev depot) (travel_time m w.clock.prev depot)
      (upto_add g.distance (unit (a.distance w.clock.prev depot g.there h)) (lit≤ tt) (omega arith)) (a.travel w.clock.prev depot g.there h)

  schedule_bounded : (depot : ℕ) → depot < m.size → (route : List ℕ) → Stops m.size route → EvalBounded (length route) (schedule cs m depot b route)
  unfolding schedule
  schedule_bounded depot h route s =
      ride_home_good (length route) (omega (arith, s.few)) depot h (ride_all cs m b route (ride-out depot))
      (walk_count_rule Some ride-onward (ride cs m b) None (λ w f. refl) (λ f. refl) ridden_cases (RiddenGood m.size) (λ c. c < m.size) 256 (λ k. tt)
      (λ k w c few h g. ride_good k w c few h g) route (ride-out depot) (stops_all m.size route s) s.few
      (record { before = start_good; after = tt; distance = upto_zero 40 0; there = h }))

-- ---- the whole route

limited_bounded : (k : ℕ) (limits : RouteLimits) (e : Option RouteEval) → EvalBounded k e → EvalBounded k (limited limits e)
limited_bounded k limits None g = tt
limited_bounded k limits (Some e) g = cond_rule (EvalBounded k) (allow limits e.distance e.duration) (λ _. g) (λ _. tt)

module _ (cs : Customers) (m : DistanceMatrix) (a : Amounts cs m) (depot : ℕ) (h : depot < m.size) (limits : RouteLimits) (r : RestAmounts limits.rest)
    (route : List ℕ) (s : Stops m.size route) where
  all_bounded : EvalBounded (length route) (route_eval cs m depot limits route)
  unfolding route_eval
  all_bounded = go limits.rest r
    where
      go : (x : Option VehicleBreak) → RestAmounts x → EvalBounded (length route) (eval_with cs m depot limits route x)
      go None y = plain_bounded cs m a depot h limits route s
      go (Some rest) y = limited_bounded (length route) limits (schedule cs m depot rest route) (schedule_bounded cs m a rest y depot h route s)

  -- an evaluation's numbers are finite, with their bounds
  pub eval_bounded : (e : RouteEval) → route_eval cs m depot limits route ≡ Some e → Bounded (length route) e
  eval_bounded e x = subst (EvalBounded (length route)) x all_bounded

  -- what a route is worth is +∞ or finite, and never a NaN
  pub cost_not_nan : is_nan (effective_cost cs m depot limits route) ≡ false
  unfolding effective_cost is_nan
  cost_not_nan = go (route_eval cs m depot limits route) all_bounded
    where
      go : (e : Option RouteEval) → EvalBounded (length route) e → is_nan (worth e) ≡ false
      go None g = refl
      go (Some e) g =
          let d = upto_as 80 (length route + 1) g.distance (omega arith) in
          upto_not_nan (upto_add d g.cost (lit≤ tt) (omega (arith, s.few)))

-- ---- the largest distance, and the bound on the cost of lateness

all_amounts : (xs : List Float) → ((k : ℕ) → k < length xs → Amount (get_or xs k nan)) → All (Upto 40 1) xs
all_amounts xs f = all_of xs nan (λ k h. unit (f k h))

pub largest_bounded : (xs : List Float) → ((k : ℕ) → k < length xs → Amount (get_or xs k nan)) → Upto 40 1 (largest xs)
unfolding largest
largest_bounded xs f = foldl_rule (Upto 40 1) (Upto 40 1) max (λ t x q p. upto_max p q) (all_amounts xs f) (upto_zero 40 1)

with_window_bounded : (most : Float) (w : Option TimeWindow) → Upto 40 1 most → WindowAmounts w → Upto 40 1 (with_window most w)
with_window_bounded most None u a = u
with_window_bounded most (Some w) u (r, d) = upto_max u (upto_max (unit r) (unit d))

with_penalty_bounded : (most : Float) (q : Option Float) → Upto 40 1 most → PenaltyAmount q → Upto 40 1 (with_penalty most q)
with_penalty_bounded most None u a = u
with_penalty_bounded most (Some each) u a = upto_max u (unit a)

module _ (cs : Customers) (m : DistanceMatrix) (a : Amounts cs m) (f : Fit cs m) where
  place_in : (c : ℕ) → c < length cs.flags → c < m.size
  place_in c h = subst (λ (k : ℕ). c < k) f.sized.flag_cells h

  window_bounded : Upto 40 1 (latest_window cs.ready cs.due cs.flags)
  unfolding latest_window later_window
  window_bounded =
      loop_rule (λ _ x. Upto 40 1 x) (length cs.flags) (later_window cs.ready cs.due cs.flags)
      (λ c x h u. with_window_bounded x (window_at cs.ready cs.due cs.flags c) u (customer cs m a c (place_in c h)).window) (upto_zero 40 1)

  penalty_bounded : Upto 40 1 (dearest_penalty cs.penalty cs.flags)
  unfolding dearest_penalty dearer_penalty
  penalty_bounded =
      loop_rule (λ _ x. Upto 40 1 x) (length cs.flags) (dearer_penalty cs.penalty cs.flags)
      (λ c x h u. with_penalty_bounded x (penalty_at cs.penalty cs.flags c) u (customer cs m a c (place_in c h)).penalty) (upto_zero 40 1)

  slowest_bounded : Upto 40 1 (slowest m)
  unfolding slowest
  slowest_bounded =
      loop_rule (λ _ x. Upto 40 1 x) m.size (λ i row. loop m.size (λ j most. max most (travel_time m i j)) row)
      (λ i x h u. loop_rule (λ _ y. Upto 40 1 y) m.size (λ j most. max most (travel_time m i j)) (λ j y k v. upto_max v (unit (a.travel i j h k))) u) (upto_zero 40 1)

  -- 256 × 513 × 2 ^ 80 at most
  pub lateness_bound_bounded : Upto 80 131328 (lateness_bound cs m)
  unfolding lateness_bound
  lateness_bound_bounded =
      let count = upto_more 256 (nat_upto m.size (omega (arith, f.square.few))) f.square.few in
      let service = largest_bounded cs.service (λ k h. a.service k (subst (λ (i : ℕ). k < i) f.sized.service_cells h)) in
      let way = upto_add slowest_bounded service (lit≤ tt) (lit≤ tt) in
      let longest = upto_add window_bounded (upto_mul count way (lit≤ tt) (lit≤ tt)) (lit≤ tt) (lit≤ tt) in
      cond_rule (Upto 80 131328) (has_soft_windows cs.flags) (λ _. upto_mul (upto_mul count penalty_bounded (lit≤ tt) (lit≤ tt)) longest (lit≤ tt) (lit≤ tt)) (λ _. upto_zero 80 131328)

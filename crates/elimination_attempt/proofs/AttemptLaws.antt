-- Laws of an attempt: its answer, and what is left of the slices, each from the facts that the code has where it needs it. Assumes nothing.
use Prim.Native.Nat.{ℕ}
use mathlib.Core.Path.{◌≡◌, refl, sym, ap, ◌∙◌}
use mathlib.Core.Bool.{Bool, true, false, true≢false}
use Rattle.std.proofs.Common.{Option}
use lib.Ieee.{Float}
use Rattle.route_saving.specs.floats.Binary64.{◌⊕◌, is_finite}
use Rattle.route_saving.specs.models.Vehicle.{fixed_cost_in_distance}
use Rattle.route_saving.specs.models.Problem.{Problem}
use Rattle.plan_copy.specs.plan.Plan.{Plan, route}
use Rattle.plan_copy.specs.plan.declared.routes.Routes.{Routes}
use Rattle.route_saving.specs.local_search.Options.{then_some}
use Rattle.route_saving.specs.reinsertion_worth.Worth.{worth}
use Rattle.route_saving.specs.elimination_moves.Eliminate.{without_route}
use Rattle.route_saving.specs.emptied_route.Attempts.{emptied, Accepted, Left}

-- ---- the answer: what is saved is not finite; or the attempt is made

module _ (p : Problem) {routes each : Plan} (r : ℕ) (same : each ≡ routes) (x : Float) (ex : x ≡ worth p (route r each) ⊕ fixed_cost_in_distance p.vehicle) (v : Bool) (ev : v ≡ is_finite x) where
  here : x ≡ worth p (route r routes) ⊕ fixed_cost_in_distance p.vehicle
  here = rw same at ex

  pub without_endless : v ≡ false → (y : Plan) → then_some false y ≡ without_route p routes r
  unfolding without_route then_some
  without_endless f y = rw (← here, ← ev, f)

  pub without_tried : v ≡ true → (b : Bool) (y : Plan) → then_some b y ≡ emptied p x routes r → then_some b y ≡ without_route p routes r
  unfolding without_route
  without_tried h b y e = rw (← here, ← ev, h) e

-- the plan of a refused attempt is any
module _ (b : Bool) (y : Plan) (o : Option Plan) (e : then_some b y ≡ o) where
  pub tried_gained : b ≡ true → then_some true y ≡ o
  tried_gained f = ap (λ (t : Bool). then_some t y) (sym f) ∙ e

  pub tried_refused : b ≡ false → (z : Plan) → then_some false z ≡ o
  tried_refused f z = same ∙ ap (λ (t : Bool). then_some t y) (sym f) ∙ e
    where
      same : then_some false z ≡ then_some false y
      same = unfold then_some in refl

-- ---- what is left of the slices

pub left_accepted : (b : Bool) (old new : Routes) → (b ≡ true → Accepted old.lengths.now new.lengths.now) → b ≡ true → Left true old new
left_accepted b old new a e = record { accepted = λ _. a e; lengths_back = λ f. absurd (true≢false f); stops_back = λ f. absurd (true≢false f) }

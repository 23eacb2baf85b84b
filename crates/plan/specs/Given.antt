-- The plan that lent routes are of, and what a call makes of them. Assumes nothing.
use Rattle.std.specs.Prelude.{◌≡◌, ℕ, length, refl}
use Rattle.std.proofs.Common.{◌∙◌}
use Rattle.plan.specs.Plan.{Plan, split, total}
use Rattle.plan.specs.declared.each.EachRoute.{EachRoute}
use Rattle.plan.specs.declared.routes.Routes.{Routes}

abbrev pub plan_of : Routes → Plan
plan_of r = split r.lengths.now r.stops.now

-- the routes that are left to be read, one after the other
abbrev pub routes_left : EachRoute → Plan
routes_left w = split w.lengths.now w.stops.now

-- The two slices are still the same ones.
pub record Keeps (old new : Routes) : Type 0 where
  pub same_lengths : new.lengths.ghost_name ≡ old.lengths.ghost_name
  pub same_stops : new.stops.ghost_name ≡ old.stops.ghost_name
  pub count : length new.lengths.now ≡ length old.lengths.now
  pub room : length new.stops.now ≡ length old.stops.now

pub keeps_same : (r : Routes) → Keeps r r
keeps_same r = record { same_lengths = refl; same_stops = refl; count = refl; room = refl }

pub keeps_on : {a b c : Routes} → Keeps a b → Keeps b c → Keeps a c
keeps_on f g =
    record {
      same_lengths = g.same_lengths ∙ f.same_lengths;
      same_stops = g.same_stops ∙ f.same_stops;
      count = g.count ∙ f.count;
      room = g.room ∙ f.room;
    }

-- In the same two slices stands a plan of n stops then.
pub record Becomes (old : Routes) (plan : Plan) (n : ℕ) (new : Routes) : Type 0 where
  pub routes : plan_of new ≡ plan
  pub sum : total new.lengths.now ≡ n
  pub kept : Keeps old new

-- nothing is done
pub becomes_same : (r : Routes) → Becomes r (plan_of r) (total r.lengths.now) r
becomes_same r = record { routes = refl; sum = refl; kept = keeps_same r }

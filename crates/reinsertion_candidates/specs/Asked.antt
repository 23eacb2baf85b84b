-- What the code asks of a stop that is to be moved, of a route that it may go into, and of the plan. Assumes nothing.
use Rattle.std.specs.Prelude.{ℕ, ◌<◌, List, [], length}
use Rattle.reinsertion_worth.specs.laws.All.{All}
use Rattle.reinsertion_worth.specs.models.Problem.{Problem, Stops, problem_of}
use Rattle.reinsertion_worth.specs.plan.Plan.{split, total}
use Rattle.reinsertion_candidates.specs.declared.Move.{Move}

-- a stop that is to be moved, of a problem that a search is given
pub record Asked (p : Problem) (m : Move) : Type 0 where
  pub there : m.c < p.roads.size

-- such a stop and a route, which has fewer stops than there can be places; no demand is read
pub record Looked (p : Problem) (m : Move) (r : List ℕ) : Type 0 where
  pub there : m.c < p.roads.size
  pub stops : Stops p.roads.size r
  pub few : length r < 256

module _ (p : Problem) where
  pub looked_of : (m : Move) (r : List ℕ) → Asked p m → Stops p.roads.size r → length r < 256
      → Looked (problem_of [] p.places p.roads p.vehicle) m r
  looked_of m r a s f =
      record {
        there = a.there;
        stops = s;
        few = f;
      }

-- two slices with a plan of fewer stops than there can be places
pub record Room (n : ℕ) (lengths stops : List ℕ) : Type 0 where
  pub routes : All (Stops n) (split lengths stops)
  pub few : total lengths < 256

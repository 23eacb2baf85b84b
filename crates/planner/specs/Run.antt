-- Lists of calls over one problem, and what is claimed of every one of them ("Lists of calls"; demand 3). Assumes nothing.
use Rattle.std.specs.Prelude.{ℕ, ◌+◌, ◌*◌, ◌/◌, ◌≤◌, ◌<◌, ◌≡◌, true, ◌⊎◌, length}
use mathlib.Core.List.{List, [], ◌∷◌, Memᴰ}
use Rattle.std.specs.Prelude.{None, Some}
use Rattle.std.specs.Float.Ieee.{lt}
use Rattle.lateness_bound.specs.laws.All.{All}
use Rattle.lateness_bound.specs.models.Problem.{Problem}
use Rattle.minimization.specs.plan.Plan.{Plan, Slices, drop_empty, occurs}
use Rattle.minimization.specs.route_cost.Route.{cost}
use Rattle.minimization.specs.route_load.Feasible.{Sound}
use Rattle.minimization.specs.local_search.declared.rounds.Counts.{Counts}
use Rattle.minimization.specs.local_search.declared.rounds.Reduction.{Reduction}
use Rattle.minimization.specs.ejection_pool.Pool.{Allowance}
use Rattle.entry.specs.declared.Work.{Work}
use Rattle.entry.specs.Given.{entry}
use Rattle.planner.specs.Calls.{Answer, refused, answered, Reply, plan_in, public_minimise, public_eliminate}

-- ---- calls

-- "Each has work cells of any number and content, minimise its own M, tape and K."
pub data Call : Type 0 where
  minimise : Allowance → Work → Call
  eliminate : Work → Call

-- one call on two slices
unfoldable pub call : Problem → Slices → Call → Reply
call p s (minimise given w) = public_minimise p s given w
call p s (eliminate w) = public_eliminate p s w

-- "The first call gets any two plan slices, each later one gets both whole as the last call left them.": what each replies
unfoldable pub run : Problem → Slices → List Call → List Reply
run p s [] = []
run p s (c ∷ cs) =
    let r = call p s c in
    r ∷ run p r.slices cs

-- ---- what is counted

abbrev pub counts_of : Answer Reduction → Counts
counts_of (refused n) = record { steps = 0; draws = 0 }
counts_of (answered d) = d.counts

unfoldable pub steps : List Reply → ℕ
steps [] = 0
steps (r ∷ rs) = (counts_of r.answer).steps + steps rs

unfoldable pub draws : List Reply → ℕ
draws [] = 0
draws (r ∷ rs) = (counts_of r.answer).draws + draws rs

-- the step limit of a minimise call that is accepted
abbrev pub granted : Call → Answer Reduction → ℕ
granted (minimise given w) (refused n) = 0
granted (minimise given w) (answered d) = given.limit
granted (eliminate w) a = 0

-- their sum: Σ M
unfoldable pub limits : List Call → List Reply → ℕ
limits [] rs = 0
limits (c ∷ cs) [] = 0
limits (c ∷ cs) (r ∷ rs) = granted c r.answer + limits cs rs

-- the non-empty routes, in plan order
abbrev pub routes_in : Slices → Plan
routes_in s = drop_empty (plan_in s)

-- ---- the claim

-- P holds of each call: of the slices that it got, the call, and its reply
pub data Along (P : Slices → Call → Reply → Type 0) : Slices → List Call → List Reply → Type 0 where
  along_nil : {s : Slices} → Along P s [] []
  along_cons : {s : Slices} {c : Call} {cs : List Call} {r : Reply} {rs : List Reply} → P s c r → Along P r.slices cs rs → Along P s (c ∷ cs) (r ∷ rs)

-- "Computed cost is the pool's cost over the non-empty routes in plan order.": where a minimise call leaves fewer of them, it is lower
abbrev pub Cheaper : Problem → Slices → Call → Reply → Type 0
Cheaper p s (minimise given w) r =
    length (routes_in r.slices) < length (routes_in s) → lt (cost p (routes_in r.slices)) (cost p (routes_in s)) ≡ true
Cheaper p s (eliminate w) r = Unit

-- the slices after a call, against the first
pub record Kept (p : Problem) (first s : Slices) : Type 0 where
  -- every place occurs as often
  pub places : (c : ℕ) → occurs c (plan_in s) ≡ occurs c (plan_in first)
  -- there are no more non-empty routes
  pub no_more : length (routes_in s) ≤ length (routes_in first)
  -- each of them is a route of the first plan, or within capacity and passes the check
  pub origins : All (λ r. Memᴰ r (plan_in first) ⊎ Sound p r) (routes_in s)
  -- the table accepts the plan again
  pub accepted : entry p s ≡ None

-- where the problem and the first plan are accepted
pub record Demand (p : Problem) (first : Slices) (calls : List Call) (replies : List Reply) : Type 0 where
  pub kept : All (λ r. Kept p first r.slices) replies
  -- n is the number of non-empty routes of the first plan
  pub few_steps : steps replies ≤ limits calls replies * (length (routes_in first) * (length (routes_in first) + 1) / 2)
  pub few_draws : draws replies ≤ 500 * steps replies
  pub cheaper : Along (Cheaper p) first calls replies

-- Demand 3, of the replies to a list of calls.
pub record Claim (p : Problem) (first : Slices) (calls : List Call) (replies : List Reply) : Type 0 where
  -- "The other side is demand 2's steps, run from the same first plan over the same problem and calls"
  pub by_the_steps : replies ≡ run p first calls
  -- "If the entry checks refuse the problem or the first plan, every call is refused and both slices stay"
  pub refused_whole : (n : ℕ) → entry p first ≡ Some n → All (λ r. r ≡ record { answer = refused n; slices = first }) replies
  pub demand : entry p first ≡ None → Demand p first calls replies

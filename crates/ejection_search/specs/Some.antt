-- One stop or two leave, by a flag: a part of the search that has a function of its own. Assumes nothing.
use Rattle.std.specs.Prelude.{ℕ, Bool, true, false, List, length}
use Rattle.std.specs.Prelude.{Option, None}
use Rattle.route_ejection.specs.laws.Loops.{loop}
use Rattle.route_ejection.specs.models.Problem.{Problem}
use Rattle.route_ejection.specs.plan.Plan.{Plan, route}
use Rattle.route_ejection.specs.ejection.declared.Ejection.{Ejection}
use Rattle.route_ejection.specs.ejection.Eject.{try_one, try_two}

-- one stop or two leave route k
abbrev pub try_some : Bool → Problem → ℕ → List ℕ → ℕ → List ℕ → Option Ejection → Option Ejection
try_some true p c failures k r best = try_two p c failures k r best
try_some false p c failures k r best = try_one p c failures k r best

-- one stop or two leave a route of the plan: `eject_one` and `eject_two`
unfoldable pub eject_some : Bool → Problem → Plan → ℕ → List ℕ → Option Ejection
eject_some two p routes c failures = loop (length routes) (λ k. try_some two p c failures k (route k routes)) None

-- `erase_route` meets its contract: what the check does not find alone.
use borrow.Author.Rules.{rules}
use Rattle.route_exchange.specs.PlanPlanLaws.{place_laws}
use Rattle.route_removal.proofs.RemovalLaws.{erase_laws}
use Rattle.route_removal.proofs.erase_route.Goals as goal

pub cut-requires : goal.cut-requires
cut-requires c = search (rules, place_laws)

pub invariant_of-routes-2 : goal.invariant_of-routes-2
invariant_of-routes-2 c = record { lent = search (rules, erase_laws) }

pub returns-clause-rest : goal.returns-clause-rest
returns-clause-rest c = search erase_laws

pub returns-clause-plan : goal.returns-clause-plan
returns-clause-plan c = search erase_laws

-- `take_out` meets its contract: what the check does not find alone.
use Rattle.std.proofs.Common.{rules, refl, length-set}
use Rattle.plan.proofs.PlanLaws.{edit_laws, place_laws, becomes, lent_laws}
use Rattle.plan.proofs.routes.Routes.take_out.Goals as goal

pub begins-requires : goal.begins-requires
begins-requires c = search (rules, place_laws)

pub overflow_add-p : goal.overflow_add-p
overflow_add-p c = search (rules, place_laws)

pub offset_bounds-self-p : goal.offset_bounds-self-p
offset_bounds-self-p c = search (rules, place_laws)

pub bounds-self-p : goal.bounds-self-p
bounds-self-p c = search (rules, place_laws)

pub cut-requires : goal.cut-requires
cut-requires c = search (rules, place_laws)

pub offset_bounds-self-k : goal.offset_bounds-self-k
offset_bounds-self-k c = search (rules, place_laws)

pub bounds-self-k : goal.bounds-self-k
bounds-self-k c = search (rules, place_laws)

pub overflow_sub-self : goal.overflow_sub-self
overflow_sub-self c = search (rules, place_laws)

pub bounds-self-k-2 : goal.bounds-self-k-2
bounds-self-k-2 c = search (rules, place_laws)

pub invariant_of-self-2 : goal.invariant_of-self-2
invariant_of-self-2 c = record { lent = search (rules, lent_laws) }

pub returns-clause-plan : goal.returns-clause-plan
returns-clause-plan c = becomes _ _ (record { same_lengths = refl; same_stops = refl; count = length-set _ _ _; room = search edit_laws }) (search edit_laws)

pub returns-clause-stop : goal.returns-clause-stop
returns-clause-stop c = search edit_laws

-- `exchange_in_order` meets its contract: what the check does not find alone.
use lib.Seq.{lt-length-set}
use lib.ListN.{length-set}
use mathlib.Core.Path.{refl, ◌∙◌}
use borrow.Author.Rules.{rules}
use Rattle.exchanged_stops.specs.plan.Slices.{position_route}
use Rattle.exchanged_stops.specs.PlanPlanLaws.{becomes}
use Rattle.route_exchange.proofs.ExchangeLaws.{exchange_tails_done, first_in_order, second_in_order, tails_in_order, tails_kept, tails_laws, tails_lent, tails_there}
use Rattle.route_exchange.proofs.exchange_in_order.Goals as goal

pub offset_bounds-routes-a : goal.offset_bounds-routes-a
offset_bounds-routes-a c = search (rules, tails_laws)

pub bounds-routes-a : goal.bounds-routes-a
bounds-routes-a c = search (rules, tails_laws)

pub offset_bounds-routes-b : goal.offset_bounds-routes-b
offset_bounds-routes-b c = search (rules, tails_laws)

pub bounds-routes-b : goal.bounds-routes-b
bounds-routes-b c = search (rules, tails_laws)

pub begins-p-requires : goal.begins-p-requires
begins-p-requires c = search (rules, tails_laws)

pub begins-q-requires : goal.begins-q-requires
begins-q-requires c = search (rules, tails_laws)

pub overflow_add-p : goal.overflow_add-p
overflow_add-p c = search (rules, tails_laws)

pub overflow_add-p-2 : goal.overflow_add-p-2
overflow_add-p-2 c = search (rules, tails_laws)

pub overflow_add-q : goal.overflow_add-q
overflow_add-q c = search (rules, tails_laws)

pub overflow_add-q-2 : goal.overflow_add-q-2
overflow_add-q-2 c = search (rules, tails_laws)

pub swap_parts-requires : goal.swap_parts-requires
swap_parts-requires c = (search first_in_order, search tails_in_order, search second_in_order, search tails_there, search tails_kept)

pub overflow_sub-lengths : goal.overflow_sub-lengths
overflow_sub-lengths c = search (rules, tails_laws)

pub overflow_add-lengths : goal.overflow_add-lengths
overflow_add-lengths c = search (rules, tails_laws)

pub overflow_cast-lengths : goal.overflow_cast-lengths
overflow_cast-lengths c = search (rules, tails_laws)

pub offset_bounds-lengths-a : goal.offset_bounds-lengths-a
offset_bounds-lengths-a c = search (rules, tails_laws)

pub bounds-lengths-a : goal.bounds-lengths-a
bounds-lengths-a c = search (rules, tails_laws)

pub overflow_sub-lengths-2 : goal.overflow_sub-lengths-2
overflow_sub-lengths-2 c = search (rules, tails_laws)

pub overflow_add-lengths-2 : goal.overflow_add-lengths-2
overflow_add-lengths-2 c = search (rules, tails_laws)

pub overflow_cast-lengths-2 : goal.overflow_cast-lengths-2
overflow_cast-lengths-2 c = search (rules, tails_laws)

pub offset_bounds-lengths-b : goal.offset_bounds-lengths-b
offset_bounds-lengths-b c = search (rules, tails_laws)

pub bounds-lengths-b : goal.bounds-lengths-b
bounds-lengths-b c = search (lt-length-set, position_route)

pub invariant_of-routes-2 : goal.invariant_of-routes-2
invariant_of-routes-2 c = record { lent = search (rules, tails_lent) }

pub returns : goal.returns
returns c =
    becomes _ _ (record { same_lengths = refl; same_stops = refl; count = length-set _ _ _ ∙ length-set _ _ _; room = search rules }) (search exchange_tails_done)

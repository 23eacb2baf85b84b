-- `values_pass` meets its contract: what the check does not find alone.
use borrow.Author.Rules.{rules}
use Rattle.place_checks.specs.models.Valid.{values_pass}
use Rattle.refusal_rows.proofs.GroupLaws.{ready_demand, due_demand, penalty_demand, flags_demand}
use Rattle.refusal_rows.proofs.values_pass.Goals as goal

pub places_pass-requires : goal.places_pass-requires
places_pass-requires c = (ready_demand _ c.requires, due_demand _ c.requires, penalty_demand _ c.requires, flags_demand _ c.requires)

pub returns-then-amounts_pass-3 : goal.returns-then-amounts_pass-3
unfolding values_pass
returns-then-amounts_pass-3 c = search rules

pub returns-else-amounts_pass-3 : goal.returns-else-amounts_pass-3
unfolding values_pass
returns-else-amounts_pass-3 c = search rules

-- `look_at` meets its contract: what the check does not find alone.
use Rattle.reinsertion.proofs.PlaceLaws.{look_taken, look_refused, look_passed}
use Rattle.reinsertion.proofs.look_at.Goals as goal
use Rattle.reinsertion.proofs.look_at.Goals.{else-leads-via-then-leads+else-settles, else-leads-via-else-leads}

pub returns-then-settles : goal.returns-then-settles
returns-then-settles c = look_taken _ _ _ _ _ _ _ c.requires.0 c.insertion_worth-cost.ensures _ c.args.fleet.now.soft_is _ c.leads.ensures c.if-leads.true _
    c.settles.ensures c.if-settles.true

pub returns-else-leads : goal.returns-else-leads
returns-else-leads c = elim c.else-leads.branch [
  | else-leads-via-then-leads+else-settles w ↦ look_refused _ _ _ _ _ _ _ c.requires.0 c.insertion_worth-cost.ensures _ c.args.fleet.now.soft_is _ c.leads.ensures w.if-leads.true _
      w.settles.ensures w.if-settles.false
  | else-leads-via-else-leads w ↦ search look_passed
]

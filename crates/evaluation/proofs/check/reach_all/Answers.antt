-- `check::reach_all` meets its contract: what the check does not find alone.
use Rattle.evaluation.proofs.CheckLaws.{reaching_on}
use Rattle.evaluation.proofs.check.reach_all.Goals as goal

pub loop-c-preserved : goal.loop-c-preserved
loop-c-preserved c = search (reaching_on, c.in_ok-at.was, c.reach.ensures)

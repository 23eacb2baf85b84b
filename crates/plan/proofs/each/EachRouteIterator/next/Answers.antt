-- `next` meets its contract: what the check does not find alone.
use Rattle.plan.proofs.EachLaws.{each_none, each_next, each_fewer}
use Rattle.plan.proofs.each.EachRouteIterator.next.Goals as goal

pub returns-in_err-length-clause-steps : goal.returns-in_err-length-clause-steps
returns-in_err-length-clause-steps c =
    let none = each_none _ _ c.in_err-length.ensures.cases in
    rw c.from_residual.ensures (none, none)

pub returns-clause-steps : goal.returns-clause-steps
returns-clause-steps c = each_next _ _ _ _ c.in_ok-length.ensures.cases.0 c.split_at.ensures.front c.split_at.ensures.back

pub returns-clause-goes : goal.returns-clause-goes
returns-clause-goes c =
    record {
      on = λ _. (tt, tt, each_fewer _ _ _ _ c.in_ok-length.ensures.cases.0 c.split_at.ensures.front c.split_at.ensures.back);
      keeps = tt;
      rests = λ _. tt;
    }

-- `calls::problem_refusal` meets its contract: what the check does not find alone.
use Rattle.refusals.proofs.RefusalLaws.{refused_problem}
use Rattle.refusals.proofs.calls.problem_refusal.Goals as goal

pub returns : goal.returns
returns c = search refused_problem

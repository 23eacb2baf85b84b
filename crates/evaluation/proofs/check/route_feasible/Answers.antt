-- `check::route_feasible` meets its contract: what the check does not find alone.
use Rattle.std.proofs.Common.{rules}
use Rattle.evaluation.proofs.CheckLaws.{reach_ends}
use Rattle.evaluation.proofs.check.route_feasible.Goals as goal

pub home_allowed-requires-clause-prev_lt_n : goal.home_allowed-requires-clause-prev_lt_n
home_allowed-requires-clause-prev_lt_n c = (search (rules, reach_ends, c.requires), c.requires.0)

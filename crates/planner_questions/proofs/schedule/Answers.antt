-- `schedule` meets its contract: what the check does not find alone.
use Rattle.std.proofs.lemmas.Result.{err_from_is_err_and}
use Rattle.planner_questions.proofs.QuestionLaws.{schedule_fit, schedule_depot, schedule_stops, schedule_refused, schedule_answered}
use Rattle.planner_questions.proofs.schedule.Goals as goal

pub returns-in_err-schedule_refusal : goal.returns-in_err-schedule_refusal
returns-in_err-schedule_refusal c = let p = err_from_is_err_and c.from_residual.result c.from_residual.ensures.1 in rw (p.1, p.2) (schedule_refused _ _ _ _ c.in_err-schedule_refusal.ensures)

pub network-requires : goal.network-requires
network-requires c = schedule_fit _ _ _ c.in_ok-schedule_refusal.ensures

pub schedule-timed-requires : goal.schedule-timed-requires
schedule-timed-requires c = rw c.network.ensures.1 (schedule_depot _ _ _ c.in_ok-schedule_refusal.ensures, schedule_stops _ _ _ c.in_ok-schedule_refusal.ensures)

pub returns : goal.returns
returns c = schedule_answered _ _ _ c.in_ok-schedule_refusal.ensures _ (rw (c.network.ensures.0, c.network.ensures.1) at c.schedule-timed.ensures)

-- `run_next` meets its contract: what the check does not find alone.
use Rattle.recorded_call.proofs.RecordLaws.{lent_tape, room_same}
use Rattle.recorded_call.proofs.run_next.Goals as goal

pub run_call-answer-requires : goal.run_call-answer-requires
run_call-answer-requires c = lent_tape _ _ _ _ _ c.requires c.split_at.ensures.front

pub record_answer-requires : goal.record_answer-requires
record_answer-requires c = c.requires.answer

pub record_slices-requires : goal.record_slices-requires
record_slices-requires c = room_same _ c.run_call-answer.auto.lengths c.run_call-answer.auto.stops c.requires.slices

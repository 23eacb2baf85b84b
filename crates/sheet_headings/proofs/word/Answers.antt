-- `word` meets its contract: what the check does not find alone.
use Rattle.sheet_text.proofs.TextLaws.{word_ends, word_goes_on, word_stops}
use Rattle.sheet_text.proofs.ReadLaws.{handed_on}
use Rattle.sheet_headings.proofs.word.Goals as goal

pub returns-in_err-byte : goal.returns-in_err-byte
returns-in_err-byte c = handed_on _ _ c.from_residual.ensures.1 (word_stops _ _ c.loop-b.invariant c.loop-b-test.true c.in_err-byte.ensures)

pub loop-b-preserved : goal.loop-b-preserved
loop-b-preserved c = word_goes_on _ _ c.loop-b.invariant c.loop-b-test.true c.in_ok-byte.ensures

pub returns : goal.returns
returns c = word_ends _ _ c.loop-b.invariant c.loop-b-test.false

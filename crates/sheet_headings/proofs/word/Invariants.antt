-- What the loops of `word` keep.
use lib.ListN.{drop}
use Rattle.sheet_text.specs.Text.{word}
use Rattle.sheet_text.proofs.ReadLaws.{Left}
use Rattle.sheet_headings.proofs.word.Given as goal

abbrev pub invariant-loop-b : goal.invariant-loop-b
invariant-loop-b l = Left (word l.w) l.initial.text (word (drop l.b-index l.w)) l.text

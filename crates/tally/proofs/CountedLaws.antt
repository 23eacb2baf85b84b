-- A call counted after others. Assumes nothing.
use Rattle.std.proofs.Common.{ap, ◌∙◌, ◌∷◌}
use Rattle.tally.specs.declared.Tally.{Tally}
use Rattle.tally.specs.Tally.{noted, Noted, Counted}

pub counted_more : (old now new : Tally) → Counted old now → Noted now new → Counted old new
counted_more old now new c n = record {
  calls = record { kind = n.kind; agrees = n.agrees } ∷ c.calls;
  tally = n.tally ∙ ap (λ (t : Tally). noted n.kind n.agrees t) c.tally;
}

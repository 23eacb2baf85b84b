-- What the loops of `numbers::digits` keep.
use Prim.Native.Nat.{◌<◌, ◌-◌, ◌^◌}
use mathlib.Core.Path.{◌≡◌}
use Rattle.sheet_text.specs.Text.{digits}
use Rattle.sheet_text.proofs.numbers.digits.Given as goal

abbrev pub invariant-loop-k : goal.invariant-loop-k
invariant-loop-k l = record {
  read : digits 9 0 l.initial.text.bytes.now l.initial.text.at ≡ digits (9 - l._k) l.v l.text.bytes.now l.text.at;
  same : l.text.bytes.now ≡ l.initial.text.bytes.now;
  small : l.v < 10 ^ l._k;
}

-- `numbers::digits` meets its contract: what the check does not find alone.
use Prim.Native.Nat.{◌-◌, ◌+◌}
use mathlib.Core.Path.{sym, ◌∙◌}
use native.Mathlib.Omega.{arith}
use Rattle.sheet_text.proofs.TextLaws.{digit_low, digit_high, digits_more, digits_stop, digits_done, tens, below}
use Rattle.sheet_text.proofs.numbers.digits.Goals as goal
use Rattle.sheet_text.proofs.numbers.digits.Goals.{then-b-lt48-via-then-b-lt48, then-b-lt48-via-else-b-lt48+then-b-gt57}

pub overflow_mul-v : goal.overflow_mul-v
overflow_mul-v c = let l = c.loop-k in omega (arith, below l._k 8 l.v (omega arith) l.invariant.small)

pub overflow_add-v : goal.overflow_add-v
overflow_add-v c = let l = c.loop-k in omega (arith, below l._k 8 l.v (omega arith) l.invariant.small)

pub loop-k-preserved : goal.loop-k-preserved
loop-k-preserved c = let l = c.loop-k in record {
  read = l.invariant.read ∙ digits_more _ _ l.v _ c.peek-b.ensures.value (9 - (l._k + 1)) (omega arith) (omega arith) (omega arith);
  same = l.invariant.same;
  small = tens l._k l.v _ l.invariant.small (omega arith);
}

pub returns-then-b-lt48 : goal.returns-then-b-lt48
returns-then-b-lt48 c = let l = c.loop-k in record {
  read = record {
    read = sym (l.invariant.read ∙ digits_stop _ _ l.v (9 - l._k) c.peek-b.ensures.value (elim c.then-b-lt48.branch [ then-b-lt48-via-then-b-lt48 w ↦ digit_low _ w.if-b-lt48.true | then-b-lt48-via-else-b-lt48+then-b-gt57 w ↦ digit_high _ w.if-b-gt57.true ]));
    same = l.invariant.same;
  };
  value_bound = below l._k 9 _ (omega arith) l.invariant.small;
}

pub returns-after-loop-k : goal.returns-after-loop-k
returns-after-loop-k c = let l = c.loop-k in record {
  read = record { read = sym (l.invariant.read ∙ digits_done _ _ l.v (9 - l._k) (omega arith)); same = l.invariant.same };
  value_bound = below l._k 9 _ (omega arith) l.invariant.small;
}

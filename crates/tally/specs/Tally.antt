-- The counts of the replay. Assumes nothing.
use Rattle.std.specs.Prelude.{ℕ, ◌+◌, ◌≡◌, List, [], ◌∷◌, Bool, cond, eqb, get_or, set, replicate}
use Rattle.stored_values.specs.declared.kinds.Kind.{Kind}
use Rattle.stored_values.specs.Kinds.{number_of}
use Rattle.tally.specs.declared.Calls.{Calls}
use Rattle.tally.specs.declared.Tally.{Tally}

-- one more, up to the last number of 64 bits
abbrev pub one_more : ℕ → ℕ
one_more n = cond (eqb n 18446744073709551615) n (n + 1)

-- no call
abbrev pub none_counted : Calls
none_counted = record { by_kind = replicate 10 0; all = 0 }

-- a call more of a kind, and of all
abbrev pub counted : ℕ → Calls → Calls
counted kind calls = record { by_kind = set calls.by_kind kind (one_more (get_or calls.by_kind kind 0)); all = one_more calls.all }

-- only where it agrees
abbrev pub counted_if : Bool → ℕ → Calls → Calls
counted_if agrees kind calls = cond agrees (counted kind calls) calls

-- before any call
abbrev pub no_calls : Tally
no_calls = record { asked = none_counted; agreed = none_counted }

-- a call of a kind is counted, and as one that agrees only where it does
abbrev pub noted : Kind → Bool → Tally → Tally
noted kind agrees t = record { asked = counted (number_of kind) t.asked; agreed = counted_if agrees (number_of kind) t.agreed }

-- one call is counted
pub record Noted (old new : Tally) : Type 0 where
  pub kind : Kind
  pub agrees : Bool
  pub tally : new ≡ noted kind agrees old

-- a call's kind, and whether its answer agreed
pub record Call : Type 0 where
  pub kind : Kind
  pub agrees : Bool

-- so many calls are counted, the last of them first in the list
abbrev pub after_calls : List Call → Tally → Tally
after_calls [] t = t
after_calls (c ∷ cs) t = noted c.kind c.agrees (after_calls cs t)

-- calls are counted, and nothing else
pub record Counted (old new : Tally) : Type 0 where
  pub calls : List Call
  pub tally : new ≡ after_calls calls old

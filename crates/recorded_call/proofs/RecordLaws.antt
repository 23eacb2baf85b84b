-- How a call of a list is recorded. Assumes nothing.
use Prim.Native.Nat.{ℕ, ◌+◌, ◌*◌, ◌≤◌}
use native.Mathlib.Omega.{arith}
use mathlib.Core.Path.{◌≡◌, ap, ◌∙◌}
use mathlib.Core.List.{List}
use lib.ListN.{length, take}
use lib.Seq.{length-take-le}
use Rattle.call_history.specs.call_words.declared.Words.{Words}
use Rattle.call_history.specs.call_words.Words.{Buffers}
use Rattle.called.specs.Lent.{Lent}
use Rattle.recorded_call.specs.Recording.{Next}

-- the call's tape is the first of the tapes, and as long as the words say
pub tape_whole : (i : ℕ) (w : Words) (tapes tape : List ℕ) (b : Buffers) → Next i w tapes b → tape ≡ take w.tape tapes → length tape ≡ w.tape
tape_whole i w tapes tape b n e = ap length e ∙ length-take-le w.tape tapes n.tape

-- and with its work cells the call is lent what it asks for
pub lent_tape : (i : ℕ) (w : Words) (tapes tape : List ℕ) (b : Buffers) → Next i w tapes b → tape ≡ take w.tape tapes → Lent w (length tape) (length b.work) (length b.cells)
lent_tape i w tapes tape b n e = record { tape = omega (arith, tape_whole i w tapes tape b n e); small = n.small; wide = n.wide }

pub room_same : (i : ℕ) {l s m t size : ℕ} → m ≡ l → t ≡ s → i * (l + s) + (l + s) ≤ size → i * (m + t) + (m + t) ≤ size
room_same i e f h = rw (e, f) h

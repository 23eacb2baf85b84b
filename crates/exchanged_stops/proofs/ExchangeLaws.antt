-- Two stops exchanged in the slice of stops, in the form that the proof of the code wants. Assumes nothing.
use Prim.Native.Nat.{ℕ, ◌+◌}
use mathlib.Core.Path.{◌≡◌}
use mathlib.Core.List.{List}
use Rattle.plan.specs.laws.Exchanges.{swap}
use Rattle.plan.specs.Plan.{Lent, HasStop, split, offset, exchange_stops}
use Rattle.plan.specs.Slices.{stop_within, stop_route}
use Rattle.plan.proofs.Exchanges.{exchange_stops_slices}

pub exchange_stops_done : (ls s : List ℕ) (a i b j p q : ℕ) {s₁ : List ℕ} → Lent ls s → p ≡ offset ls a → q ≡ offset ls b → (a ≡ b → ⊥)
    → HasStop (split ls s) a i → HasStop (split ls s) b j → s₁ ≡ swap (p + i) (q + j) s → split ls s₁ ≡ exchange_stops a i b j (split ls s)
exchange_stops_done ls s a i b j p q l ep eq d h k e =
    rw (e, ep, eq) (exchange_stops_slices ls s a i b j d (stop_route ls s a i h) (stop_route ls s b j k) (stop_within ls s l a i h) (stop_within ls s l b j k) l.inside)

-- Why the clock needs no counter of its own: askings and steps agree for as long as it answers no, and from the first yes on both have reached K.
-- So what the clock answers may be read off the steps. Assumes nothing.
use Rattle.std.specs.Prelude.{ℕ, ◌+◌, ◌≤◌, ◌≡◌, refl, true, false, ◌⊎◌, leb}
use Rattle.std.proofs.Common.{inl, inr, ⊎_elim, arith, leb-true, leb-false, le-leb}

-- of a call with K, after some askings and some steps
abbrev pub Agree : ℕ → ℕ → ℕ → Type 0
Agree k asked steps = (asked ≡ steps) ⊎ ((k ≤ asked) × (k ≤ steps))

module _ (k : ℕ) where
  pub agree_start : Agree k 0 0
  agree_start = inl refl

  module _ (asked steps : ℕ) (h : Agree k asked steps) where
    -- the answer: "no to the first K askings of a call, yes from then on"
    pub agree_answer : leb k asked ≡ leb k steps
    agree_answer = ⊎_elim (λ e. rw e) (λ g. rw (le-leb k asked g.0, le-leb k steps g.1)) h

    -- no: one more asking, and one step counts
    pub agree_no : leb k asked ≡ false → Agree k (asked + 1) (steps + 1)
    agree_no e = ⊎_elim (λ g. inl (rw g)) (λ g. absurd (omega (arith, g.0, leb-false k asked e))) h

    -- yes: one more asking, and the attempt fails
    pub agree_yes : leb k asked ≡ true → Agree k (asked + 1) steps
    agree_yes e = ⊎_elim (λ g. inr (omega (arith, leb-true k asked e), omega (arith, leb-true k asked e, g))) (λ g. inr (omega (arith, g.0), g.1)) h

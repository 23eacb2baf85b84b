-- The routes of a plan, one after the other. Assumes nothing.
use Rattle.std.proofs.Common.{◌≡◌, ℕ, ◌+◌, ◌-◌, ◌≤◌, ◌<◌, List, [], ◌∷◌, length, take, drop, arith, length-drop, rules}
use Rattle.std.proofs.lemmas.List.{nil_from_length}
use Rattle.plan.specs.Plan.{Lent, split, total}

pub each_none : (ls s : List ℕ) → length ls ≡ 0 → split ls s ≡ []
unfolding split
each_none ls s e = rw (nil_from_length ls e)

module _ (ls s : List ℕ) (n : ℕ) (rest : List ℕ) (e : ls ≡ n ∷ rest) where
  each_total : Lent ls s → n + total rest ≤ length s
  unfolding total
  each_total l = rw e at l.inside

  pub each_within : Lent ls s → n ≤ length s
  each_within l = omega (arith, each_total l)

  pub each_lent : {more : List ℕ} → more ≡ drop n s → Lent ls s → Lent rest more
  each_lent m l = rw m (record { inside = rw length-drop (omega (arith, each_total l)); few = rw length-drop (omega (arith, l.few)) })

  pub each_next : {route more : List ℕ} → route ≡ take n s → more ≡ drop n s → split ls s ≡ route ∷ split rest more
  unfolding split
  each_next r m = rw (e, r, m)

  pub each_fewer : {route more : List ℕ} → route ≡ take n s → more ≡ drop n s → length (split rest more) < length (split ls s)
  each_fewer r m = rw (each_next r m) (omega arith)

pub ruleset each_laws = (rules, each_within, each_lent)

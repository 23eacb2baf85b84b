-- A `cond` whose test is known. `search picks` closes what a branch returns from the facts of the tests on the way to it.
-- Assumes nothing.
use Rattle.std.specs.Prelude.{ℕ, ◌<◌, ◌≤◌, ◌≡◌, Bool, true, false, cond, not, ◌&&◌, ◌||◌, eqb, ltb, leb}
use Rattle.std.proofs.Common.{sym, ap, ◌∙◌, eq-eqb, ne_eqb, lt-ltb, le-ltb, le-leb}
use Rattle.std.proofs.lemmas.Bool.{lt-leb}

module _ {A : Type 0} where
  pub pick_true : (b : Bool) (x y z : A) → b ≡ true → z ≡ x → z ≡ cond b x y
  pick_true b x y z e p = p ∙ sym (ap (λ (t : Bool). cond t x y) e)

  pub pick_false : (b : Bool) (x y z : A) → b ≡ false → z ≡ y → z ≡ cond b x y
  pick_false b x y z e p = p ∙ sym (ap (λ (t : Bool). cond t x y) e)

  pub pick_eq : (m n : ℕ) (x y z : A) → m ≡ n → z ≡ x → z ≡ cond (eqb m n) x y
  pick_eq m n x y z e p = pick_true (eqb m n) x y z (eq-eqb m n e) p

  pub pick_ne : (m n : ℕ) (x y z : A) → (m ≡ n → ⊥) → z ≡ y → z ≡ cond (eqb m n) x y
  pick_ne m n x y z e p = pick_false (eqb m n) x y z (ne_eqb m n e) p

  pub pick_lt : (m n : ℕ) (x y z : A) → m < n → z ≡ x → z ≡ cond (ltb m n) x y
  pick_lt m n x y z e p = pick_true (ltb m n) x y z (lt-ltb m n e) p

  pub pick_ge : (m n : ℕ) (x y z : A) → n ≤ m → z ≡ y → z ≡ cond (ltb m n) x y
  pick_ge m n x y z e p = pick_false (ltb m n) x y z (le-ltb m n e) p

  pub pick_le : (m n : ℕ) (x y z : A) → m ≤ n → z ≡ x → z ≡ cond (leb m n) x y
  pick_le m n x y z e p = pick_true (leb m n) x y z (le-leb m n e) p

  pub pick_gt : (m n : ℕ) (x y z : A) → n < m → z ≡ y → z ≡ cond (leb m n) x y
  pick_gt m n x y z e p = pick_false (leb m n) x y z (lt-leb m n e) p

-- a conjunction and a disjunction, whose second test is made only where the first leaves it open
pub pick_and : (a b z : Bool) → a ≡ true → z ≡ b → z ≡ (a && b)
pick_and a b z e p = p ∙ sym (ap (λ (t : Bool). t && b) e)

pub pick_and_not : (a b : Bool) → a ≡ false → false ≡ (a && b)
pick_and_not a b e = sym (ap (λ (t : Bool). t && b) e)

pub pick_or : (a b : Bool) → a ≡ true → true ≡ (a || b)
pick_or a b e = sym (ap (λ (t : Bool). t || b) e)

pub pick_or_not : (a b z : Bool) → a ≡ false → z ≡ b → z ≡ (a || b)
pick_or_not a b z e p = p ∙ sym (ap (λ (t : Bool). t || b) e)

pub pick_and_eq : (m n : ℕ) (b z : Bool) → m ≡ n → z ≡ b → z ≡ (eqb m n && b)
pick_and_eq m n b z e p = pick_and (eqb m n) b z (eq-eqb m n e) p

pub pick_and_ne : (m n : ℕ) (b : Bool) → (m ≡ n → ⊥) → false ≡ (eqb m n && b)
pick_and_ne m n b e = pick_and_not (eqb m n) b (ne_eqb m n e)

pub pick_not : (v b : Bool) → v ≡ b → not v ≡ not b
pick_not v b e = ap not e

-- A test that is a call's result: it is b by the callee's contract, and t by the branch.
pub via : (b v t : Bool) → v ≡ b → v ≡ t → b ≡ t
via b v t p q = sym p ∙ q

pub ruleset picks = (pick_true, pick_false, pick_eq, pick_ne, pick_lt, pick_ge, pick_le, pick_gt, pick_and, pick_and_not, pick_and_eq, pick_and_ne, pick_or, pick_or_not, pick_not, via)

-- A loop over the numbers below r that ends at the first that fails its test. Assumes nothing.
use Rattle.std.specs.Prelude.{ℕ, ◌+◌, ◌-◌, ◌≤◌, ◌<◌, ◌≡◌, Bool, true, false}
use Rattle.std.proofs.Math.Nat.{sub-zero}
use Rattle.std.proofs.Common.{arith, sym, ◌∙◌, rules}
use Rattle.std.proofs.lemmas.Bool.{not-true, not-false}
use Rattle.laws.specs.Searches.{every, every_skip, every_stop, every_end}

-- each number below k has passed: all do exactly if those from k on do
pub record Passed (t : ℕ → Bool) (r k : ℕ) : Type 0 where
  pub within : k ≤ r
  pub left : every t r 0 ≡ every t (r - k) k

module _ (t : ℕ → Bool) (r : ℕ) where
  pub passed_none : Passed t r 0
  passed_none = record { within = omega arith; left = rw (sub-zero r) }

  module _ (k : ℕ) (p : Passed t r k) where
    pub passed_one : (v : Bool) → k < r → v ≡ t k → v ≡ true → Passed t r (k + 1)
    passed_one v h f e = record { within = omega arith; left = p.left ∙ every_skip t r k h (sym f ∙ e) }

    pub failed_one : (v : Bool) → k < r → v ≡ t k → v ≡ false → false ≡ every t r 0
    failed_one v h f e = sym (p.left ∙ every_stop t r k h (sym f ∙ e))

    pub passed_all : r ≤ k → true ≡ every t r 0
    passed_all h = sym (p.left ∙ every_end t r k h)

pub ruleset every_laws = (rules, passed_none, passed_one, failed_one, passed_all, not-true, not-false)

-- The attempt to empty a route: both slices saved and restored, and what is left of them. Assumes nothing.
use Prim.Native.Nat.{ℕ, ◌≤◌}
use mathlib.Core.Path.{◌≡◌, ap, ◌∙◌}
use mathlib.Core.List.{List, ◌++◌}
use mathlib.Core.Bool.{Bool, true}
use native.Mathlib.Omega.{arith}
use Rattle.std.specs.Prelude.{Result, Ok, Err}
use Rattle.std.specs.Result.{is_err}
use lib.ListN.{length, take, drop}
use Rattle.route_without.specs.local_search.declared.rounds.Counts.{Counts}
use Rattle.plan_copy.specs.plan.Plan.{Lent, saved}
use Rattle.plan_copy.specs.plan.declared.routes.Routes.{Routes}
use Rattle.plan_copy.specs.plan.Saved.{saved_lengths, saved_stops}
use Rattle.route_attempt.specs.Leaves.{Leaves}

-- ls and s are kept in W, of which the cells from 512 on are lent
module _ (ls s W : List ℕ) (few : length ls ≤ 256) (small : length s ≤ 255) (room : 767 ≤ length W) (lent L S : List ℕ) (l : length L ≡ length ls) (k : length S ≡ length s)
    (w : List ℕ) (e : W ≡ saved ls s w) where
  pub restored_lengths : (L₁ : List ℕ) → L₁ ≡ take (length L) (take 512 W ++ lent) → L₁ ≡ ls
  restored_lengths L₁ r = r ∙ ap (λ (n : ℕ). take n (take 512 W ++ lent)) l ∙ saved_lengths ls s w W e 512 (omega arith) lent

  pub restored_stops : (S₁ : List ℕ) → S₁ ≡ take (length S) (drop (length L) (take 512 W ++ lent)) → S₁ ≡ s
  restored_stops S₁ r =
      r
      ∙ ap (λ (n : ℕ). take n (drop (length L) (take 512 W ++ lent))) k
      ∙ ap (λ (n : ℕ). take (length s) (drop n (take 512 W ++ lent))) l
      ∙ saved_stops ls s w W e 512 (omega arith) lent

-- what is restored is lent as it was
pub lent_again : (r : Routes) {ls s : List ℕ} → ls ≡ r.lengths.now → s ≡ r.stops.now → Lent ls s
lent_again r e f = rw (e, f) r.lent

-- what is restored after an error is left as it was
pub left_as_were : (t : Result Counts Counts) (old new : Routes) {b : Bool} → b ≡ is_err t → b ≡ true → new.lengths.now ≡ old.lengths.now
    → new.stops.now ≡ old.stops.now → Leaves t old new
left_as_were (Err n) old new e h l s = (l, s)
left_as_were (Ok n) old new e h l s = cc

-- Row 5: the sum of the lengths fits. Assumes nothing.
use Rattle.std.proofs.Common.{ℕ, ◌<◌, ◌≤◌, ◌^◌, List, length, get_or, Fits, w16, arith}
use Rattle.std.proofs.lemmas.List.Sums.{sum_by-le}
use Rattle.entry.specs.laws.Lists.{get_d_any}
use Rattle.entry.specs.plan.Plan.{total}
use Rattle.entry.specs.plan.Slices.{sum_total}

pub total_fits : (ls : List ℕ) → ((i : ℕ) → Fits w16 (get_or ls i 0)) → length ls ≤ 256 → total ls < 2 ^ 64
total_fits ls f h =
    let small = sum_by-le (λ (n : ℕ). n) 65535 ls (λ k d g. rw (get_d_any ls k d 0 g) (omega (arith, (f k).fits))) in
    omega (arith, h, sum_total ls, small)

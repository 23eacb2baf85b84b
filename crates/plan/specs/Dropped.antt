-- Empty routes dropped, and the two slices that a call leaves. An empty route has no stops, so the flat stops stay; the slices hold the plan
-- with empty routes behind it. Assumes nothing.
use Rattle.std.specs.Prelude.{◌≡◌, ℕ, zero, suc, ◌+◌, ◌-◌, ◌≤◌, false, cond, not, List, [], ◌∷◌, ◌++◌, map, length, take, drop, replicate, ◌==◌, refl}
use Rattle.std.proofs.Common.{ap, sym, ◌∙◌, append-nil, arith, length-append}
use Rattle.std.proofs.Math.Nat.{sub_self}
use Rattle.std.proofs.lemmas.List.{length-replicate, length-map}
use Rattle.std.proofs.Math.Seq.{take-append_seam}
use Rattle.std.proofs.Math.Dec.{eqb-suc-zero}
use Rattle.cell_exchange.specs.laws.All.{All, all_nil, all_cons}
use Rattle.cell_exchange.specs.laws.Keeps.{keep, keep_append, keep_map, keep_same, keep_none}
use Rattle.cell_exchange.specs.laws.Counts.{count}
use Rattle.plan.specs.Plan.{Plan, split, flat, lengths_of, total, padded, written, non_empty, drop_empty, drop_zero, occurs}
use Rattle.plan.specs.Slices.{split_is, split_own, lengths_split, split_append, total_append, total_lengths, flat_free}

-- ---- empty routes dropped

-- a route is empty exactly if its length is 0
pub non_empty_length : (r : List ℕ) → not (length r == 0) ≡ non_empty r
unfolding non_empty
non_empty_length [] = refl
non_empty_length (c ∷ cs) = ap not (eqb-suc-zero (length cs))

pub lengths_drop_empty : (plan : Plan) → lengths_of (drop_empty plan) ≡ drop_zero (lengths_of plan)
lengths_drop_empty plan =
    sym (keep_map (λ n. not (n == 0)) length plan ∙ ap (λ (q : Plan). map length q) (keep_same (λ r. not (length r == 0)) non_empty (every plan)))
  where
    every : (plan : Plan) → All (λ r. not (length r == 0) ≡ non_empty r) plan
    every [] = all_nil
    every (r ∷ rs) = all_cons {x = r} (non_empty_length r) (every rs)

pub flat_drop_empty : (plan : Plan) → flat (drop_empty plan) ≡ flat plan
unfolding flat keep non_empty
flat_drop_empty [] = refl
flat_drop_empty ([] ∷ rs) = flat_drop_empty rs
flat_drop_empty ((c ∷ cs) ∷ rs) = ap (λ (l : List ℕ). c ∷ (cs ++ l)) (flat_drop_empty rs)

pub occurs_drop_empty : (x : ℕ) (plan : Plan) → occurs x (drop_empty plan) ≡ occurs x plan
occurs_drop_empty x plan = ap (count x) (flat_drop_empty plan)

pub total_drop_zero : (ls : List ℕ) → total (drop_zero ls) ≡ total ls
unfolding total keep
total_drop_zero [] = refl
total_drop_zero (n ∷ ns) = go n (total_drop_zero ns)
  where
    go : (n : ℕ) → total (drop_zero ns) ≡ total ns → total (cond (not (n == 0)) (n ∷ []) [] ++ drop_zero ns) ≡ n + total ns
    go zero e = omega arith
    go (suc n) e = rw (eqb-suc-zero n) (omega arith)

-- in the two slices the stops stay
pub drop_empty_slices : (ls s : List ℕ) → total ls ≤ length s → split (drop_zero ls) s ≡ drop_empty (split ls s)
drop_empty_slices ls s u =
    split_is (drop_empty (split ls s)) (drop (total ls) s)
    (ap drop_zero (sym (lengths_split ls s u)) ∙ sym (lengths_drop_empty (split ls s)))
    (sym (ap (λ (l : List ℕ). l ++ drop (total ls) s) (flat_drop_empty (split ls s)) ∙ flat_free ls s u))

-- ---- lengths with zeros behind them

pub length_padded : (n : ℕ) (ls : List ℕ) → length ls ≤ n → length (padded n ls) ≡ n
unfolding padded
length_padded n ls h = simp (length-append, length-replicate) (omega arith)

pub take_padded : (n : ℕ) (ls : List ℕ) → take (length ls) (padded n ls) ≡ ls
unfolding padded
take_padded n ls = take-append_seam ls (replicate (n - length ls) 0)

pub padded_full : (ls : List ℕ) → padded (length ls) ls ≡ ls
unfolding padded
padded_full ls = rw (sub_self (length ls)) (append-nil ls)

pub total_padded : (n : ℕ) (ls : List ℕ) → total (padded n ls) ≡ total ls
unfolding padded total
total_padded n ls = omega (arith, total_append ls (replicate (n - length ls) 0), zeros (n - length ls))
  where
    zeros : (m : ℕ) → total (replicate m 0) ≡ 0
    zeros zero = refl
    zeros (suc m) = omega (arith, zeros m)

pub drop_zero_padded : (n : ℕ) (ls : List ℕ) → drop_zero (padded n ls) ≡ drop_zero ls
unfolding padded
drop_zero_padded n ls =
    rw (keep_append (λ m. not (m == 0)) ls (replicate (n - length ls) 0), keep_none (λ m. not (m == 0)) (zeros (n - length ls))) (append-nil (drop_zero ls))
  where
    zeros : (m : ℕ) → All (λ k. not (k == 0) ≡ false) (replicate m 0)
    zeros zero = all_nil
    zeros (suc m) = all_cons {x = 0} refl (zeros m)

-- a plan with lengths of 0 behind it has empty routes behind it
pub split_padded : (n : ℕ) (ls s : List ℕ) → split (padded n ls) s ≡ split ls s ++ replicate (n - length ls) []
unfolding padded split
split_padded n ls s = split_append ls (replicate (n - length ls) 0) s ∙ ap (λ (q : Plan). split ls s ++ q) (empty (n - length ls) (drop (total ls) s))
  where
    empty : (m : ℕ) (s : List ℕ) → split (replicate m 0) s ≡ replicate m []
    empty zero s = refl
    empty (suc m) s = ap (λ (q : Plan). [] ∷ q) (empty m s)

pub drop_empty_padded : (plan : Plan) (m : ℕ) → drop_empty (plan ++ replicate m []) ≡ drop_empty plan
unfolding non_empty
drop_empty_padded plan m = rw (keep_append non_empty plan (replicate m []), keep_none non_empty (empty m)) (append-nil (drop_empty plan))
  where
    empty : (m : ℕ) → All (λ r. non_empty r ≡ false) (replicate m [])
    empty zero = all_nil
    empty (suc m) = all_cons {x = []} refl (empty m)

-- ---- the slices that a call leaves

pub split_written : (n : ℕ) (plan : Plan) → split (written n plan).lengths (written n plan).stops ≡ plan ++ replicate (n - length plan) []
split_written n plan =
    split_padded n (lengths_of plan) (flat plan)
    ∙ rw (split_own plan, length-map plan length)

-- the lengths still sum to the number of stops
pub total_written : (n : ℕ) (plan : Plan) → total (written n plan).lengths ≡ length (written n plan).stops
total_written n plan = total_padded n (lengths_of plan) ∙ total_lengths plan

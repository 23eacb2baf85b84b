-- Cells that are copied: what the loop has done before turn i, kept by a turn, and enough at the end. Assumes nothing.
use Prim.Native.Nat.{ℕ, ◌+◌, ◌-◌, ◌≤◌, ◌<◌, zero-le}
use mathlib.Core.Path.{◌≡◌, refl, ◌∙◌}
use mathlib.Core.List.{List}
use native.Mathlib.Numerals.{add-one}
use native.Mathlib.Omega.{arith}
use lib.ListN.{length, drop, get_or, set, length-set, length-drop}
use lib.Seq.{paste, paste-zero, paste-suc, get_or-drop}
use Rattle.std.proofs.Common.{append-nil, drop_of_length-le}
use Rattle.std.proofs.lemmas.List.Edits.{paste_all}

-- ---- `copy_part`: i cells of d₀ from `at` on have become those of s from `from` on

pub record Copying (d₀ : List ℕ) (at : ℕ) (s : List ℕ) (from n : ℕ) (d : List ℕ) (i : ℕ) : Type 0 where
  pub within : i ≤ n
  pub size : length d ≡ length d₀
  pub cells : d ≡ paste d₀ at (drop from s) i

module _ (d₀ : List ℕ) (at : ℕ) (s : List ℕ) (from n : ℕ) where
  pub copying_none : Copying d₀ at s from n d₀ 0
  copying_none = record { within = zero-le; size = refl; cells = paste-zero d₀ at (drop from s) }

  pub copying_more : (d : List ℕ) (i : ℕ) → Copying d₀ at s from n d i → at + n ≤ length d₀ → from + n ≤ length s → i < n
      → Copying d₀ at s from n (set d (at + i) (get_or s (from + i) 0)) (i + 1)
  copying_more d i c ha hf h =
      let l : length (drop from s) ≡ length s - from = length-drop from s in
      record {
        within = omega arith;
        size = length-set d (at + i) (get_or s (from + i) 0) ∙ c.size;
        cells = rw (c.cells, ← get_or-drop from s i 0, add-one i) (paste-suc d₀ at (drop from s) i 0 (omega arith) (omega arith));
      }

  pub copying_all : (d : List ℕ) (i : ℕ) → Copying d₀ at s from n d i → n ≤ i → d ≡ paste d₀ at (drop from s) n
  copying_all d i c h =
      let e : i ≡ n = omega (arith, c.within) in
      rw (← e) c.cells

pub ruleset copying_laws = (copying_none, copying_more, copying_all)

-- ---- a whole slice

pub copied_whole : (d s : List ℕ) {t : List ℕ} → length d ≡ length s → t ≡ paste d 0 (drop 0 s) (length s) → t ≡ s
copied_whole d s e h = h ∙ paste_all d 0 s (length s) refl ∙ rw (drop_of_length-le d {i = 0 + length s} (omega arith)) (append-nil s)

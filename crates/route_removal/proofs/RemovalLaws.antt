-- A route taken out, and empty routes dropped, in the form that the proofs of the code want. Assumes nothing.
use Prim.Native.Nat.{ℕ, zero, suc, ◌+◌, ◌-◌, ◌≤◌, ◌<◌, zero-le}
use mathlib.Core.Path.{◌≡◌, refl, ap, sym, ◌∙◌}
use mathlib.Core.Bool.{Bool, true, false, not}
use mathlib.Core.List.{List, [], ◌∷◌, ◌++◌, append-nil}
use native.Mathlib.Numerals.{add-one}
use native.Mathlib.Omega.{arith}
use lib.ListN.{length, take, drop, get_or, set, replicate, length-set, length-append, length-drop, drop_of_length-le}
use lib.Seq.{take_all, take-suc, drop-cons, set_at, take-set-le, take-suc-set, drop-set-lt, length-take-le, drop-drop, get_or-drop}
use lib.Dec.{eqb, eqb-suc-zero}
use mir.Val.{bool_byte as from_bool}
use Rattle.route_exchange.specs.laws.Edits.{erase, cut, cut_one, length_erase, length_cut}
use Rattle.route_exchange.specs.laws.Keeps.{keep, keep_append}
use Rattle.route_exchange.specs.plan.Parts.{cut_in_use}
use Rattle.route_exchange.specs.plan.Plan.{Holds, Lent, split, total, offset, padded, drop_zero}
use Rattle.route_exchange.specs.plan.Slices.{route_within, total_append}
use Rattle.route_exchange.specs.plan.Routes.{erase_slices}

-- ---- `erase_route`

module _ (ls s : List ℕ) (k : ℕ) (l : Lent ls s) (h : k < length ls) where
  pub erase_rest : {ls₁ : List ℕ} → ls₁ ≡ cut k 1 ls ++ drop (length ls - 1) ls → set ls₁ (length ls - 1) 0 ≡ erase k ls ++ 0 ∷ []
  erase_rest e =
      let n : suc (length (erase k ls)) ≡ length ls = length_erase k ls h in
      let z : suc (length ls - 1) ≡ length ls = omega arith in
      let d : drop (length ls - 1) ls ≡ get_or ls (length ls - 1) 0 ∷ [] =
      drop-cons ls (length ls - 1) 0 (omega arith) ∙ rw (z, drop_of_length-le ls {i = length ls} (omega arith)) in
      rw (e, cut_one k ls, d) (set_at (erase k ls) (get_or ls (length ls - 1) 0) [] 0 (length ls - 1) (omega arith))

  module _ (at used : ℕ) {t : List ℕ} (a : at ≡ offset ls k) (u : used ≡ total ls)
      (e : t ≡ cut at (get_or ls k 0) (take used s) ++ drop (length (take used s) - get_or ls k 0) (take used s)) where
    within : at + get_or ls k 0 ≤ used
    within = omega (arith, route_within ls k h)

    erase_cells : t ++ drop used s ≡ cut at (get_or ls k 0) (take used s) ++ drop (used - get_or ls k 0) s
    erase_cells = rw e (cut_in_use s used at (get_or ls k 0) within (omega (arith, l.inside)))

    pub erase_room : length (t ++ drop used s) ≡ length s
    erase_room =
        let n : length (take used s) ≡ used = length-take-le used s (omega (arith, l.inside)) in
        rw erase_cells (simp (length-append, length-drop) (omega (arith, length_cut at (get_or ls k 0) (take used s) (rw n within), n, within, l.inside)))

    pub erase_plan : Holds (erase k (split ls s)) (total ls - get_or ls k 0) (erase k ls) (t ++ drop used s)
    erase_plan = rw (erase_cells, a, u) (erase_slices ls s k h l.inside)

    -- the rest is lent still
    pub erase_lent : {ls₁ : List ℕ} → ls₁ ≡ cut k 1 ls ++ drop (length ls - 1) ls → Lent (set ls₁ (length ls - 1) 0) (t ++ drop used s)
    unfolding total
    erase_lent f =
        record { inside = rw (erase_rest f, erase_room) (omega (arith, total_append (erase k ls) (0 ∷ []), erase_plan.sum, l.inside)); few = rw erase_room l.few }

pub ruleset erase_laws = (erase_rest, erase_room, erase_plan, erase_lent)

-- ---- `drop_empty`: the first r lengths are those of the first k that are not 0, and from k on all is as it was

-- at most one more is kept
pub counted_few : (b : Bool) (m : ℕ) → m ≡ from_bool b → m ≤ 1
counted_few false m e = omega (arith, e)
counted_few true m e = omega (arith, e)

pub record Keeping (ls₀ ls : List ℕ) (r k : ℕ) : Type 0 where
  pub within : k ≤ length ls₀
  pub size : length ls ≡ length ls₀
  pub behind : r ≤ k
  pub front : take r ls ≡ drop_zero (take k ls₀)
  pub rest : drop k ls ≡ drop k ls₀

module _ (ls₀ : List ℕ) where
  pub keeping_none : Keeping ls₀ ls₀ 0 0
  unfolding keep
  keeping_none = record { within = zero-le; size = refl; behind = zero-le; front = refl; rest = refl }

  module _ (ls : List ℕ) (r k : ℕ) (s : Keeping ls₀ ls r k) where
    stored : (n m : ℕ) → m ≡ from_bool (not (eqb n 0)) → r < length ls → take (r + m) (set ls r n) ≡ take r ls ++ drop_zero (n ∷ [])
    unfolding keep
    stored zero m e h =
        let f : r + m ≡ r = omega arith in
        rw (f, append-nil (take r ls)) (take-set-le r ls r 0 (omega arith))
    stored (suc n) m e h =
        let f : r + m ≡ suc r = omega (arith, rw (eqb-suc-zero n) at e) in
        rw (f, eqb-suc-zero n) (take-suc-set ls r (suc n) h)

    pub keeping_more : (m : ℕ) → k < length ls → m ≡ from_bool (not (eqb (get_or ls k 0) 0)) → Keeping ls₀ (set ls r (get_or ls k 0)) (r + m) (k + 1)
    keeping_more m h e =
        let n = get_or ls k 0 in
        let h₀ : k < length ls₀ = omega (arith, s.size) in
        let same : n ≡ get_or ls₀ k 0 = go in
        record {
          within = omega arith;
          size = length-set ls r n ∙ s.size;
          behind = omega (arith, s.behind, counted_few (not (eqb n 0)) m e);
          front = stored n m e (omega (arith, s.behind)) ∙ rw (add-one k, take-suc ls₀ k 0 h₀, keep_append (λ x. not (eqb x 0)) (take k ls₀) (get_or ls₀ k 0 ∷ []), ← same, s.front);
          rest = rw (add-one k, drop-set-lt (suc k) ls r n (omega (arith, s.behind))) after;
        }
      where
        go : get_or ls k 0 ≡ get_or ls₀ k 0
        go =
            let z : k + 0 ≡ k = omega arith in
            rw z at (sym (get_or-drop k ls 0 0) ∙ ap (λ (l : List ℕ). get_or l 0 0) s.rest ∙ get_or-drop k ls₀ 0 0)

        after : drop (suc k) ls ≡ drop (suc k) ls₀
        after =
            let z : k + 1 ≡ suc k = add-one k in
            rw z at (sym (drop-drop 1 k ls) ∙ ap (λ (l : List ℕ). drop 1 l) s.rest ∙ drop-drop 1 k ls₀)

    module _ (h : length ls ≤ k) where
      all_kept : take r ls ≡ drop_zero ls₀
      all_kept = s.front ∙ ap drop_zero (take_all k ls₀ (omega (arith, s.size)))

      pub keeping_count : r ≡ length (drop_zero ls₀)
      keeping_count = sym (length-take-le r ls (omega (arith, s.size, s.within, s.behind))) ∙ ap length all_kept

      pub keeping_rest : {z : List ℕ} → z ≡ replicate (length (take (length ls - r) (drop r ls))) 0
          → take r ls ++ (z ++ drop (length ls - r) (drop r ls)) ≡ padded (length ls₀) (drop_zero ls₀)
      unfolding padded
      keeping_rest e =
          let l : length (drop r ls) ≡ length ls - r = length-drop r ls in
          let n : length (take (length ls - r) (drop r ls)) ≡ length ls₀ - length (drop_zero ls₀) =
          ap length (take_all (length ls - r) (drop r ls) (omega arith)) ∙ l ∙ omega (arith, s.size, keeping_count) in
          rw (e, n, drop_of_length-le (drop r ls) {i = length ls - r} (omega arith), append-nil, all_kept)

pub ruleset keeping_laws = (keeping_none, keeping_more, keeping_count, keeping_rest)

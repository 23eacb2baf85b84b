-- A stop's cell is a u16, and a stop of a sheet goes up to 999,999,999. Row 6 judges the cells as it judges the stops: a stop that does not fit
-- is no place, and neither is 65,535. Assumes nothing.
use Prim.Native.Nat.{ℕ, zero, suc, ◌≤◌, ◌<◌}
use mathlib.Core.Path.{◌≡◌, refl, ap, sym, ◌∙◌}
use mathlib.Core.Bool.{Bool, true, false, cond, not, ◌&&◌}
use mathlib.Core.List.{List, [], ◌∷◌, map}
use native.Mathlib.Omega.{arith}
use borrow.Author.Tests.{leb-true, leb-false, le-leb, ltb-true, le-ltb, ne_eqb}
use lib.Dec.{leb, ltb, eqb}
use lib.ListN.{length, take, get_or, length-map, get_or-map}
use Rattle.entry.specs.laws.Searches.{any, every}
use Rattle.entry.specs.models.Problem.{Problem, depot}
use Rattle.entry.specs.Table.{stop_passes, stops_pass}
use Rattle.sheet_format.specs.Form.{stop_cell}

-- what a cell holds: the stop itself, or 65,535 for one that is larger
cell_cases : (P : ℕ → Type 0) (c : ℕ) → (c ≤ 65535 → P c) → (65535 < c → P 65535) → P (stop_cell c)
cell_cases P c f g = go (leb c 65535) refl
  where
    go : (b : Bool) → leb c 65535 ≡ b → P (cond b c 65535)
    go true e = f (leb-true c 65535 e)
    go false e = g (leb-false c 65535 e)

cell_same : (c : ℕ) → c ≤ 65535 → stop_cell c ≡ c
cell_same c h = rw (le-leb c 65535 h)

-- a cell is a place where its stop is
cell_place : (n c : ℕ) → n ≤ 65535 → ltb (stop_cell c) n ≡ ltb c n
cell_place n c h = cell_cases (λ x. ltb x n ≡ ltb c n) c (λ l. refl) (λ l. both (le-ltb 65535 n h) (omega (arith, h, l)))
  where
    both : ltb 65535 n ≡ false → n ≤ c → ltb 65535 n ≡ ltb c n
    both e k = e ∙ sym (le-ltb c n k)

-- a place is a stop's cell where it is the stop
cell_equal : (x c : ℕ) → x < 65535 → eqb x (stop_cell c) ≡ eqb x c
cell_equal x c h = cell_cases (λ y. eqb x y ≡ eqb x c) c (λ l. refl) (λ l. ne_eqb x 65535 (λ e. omega (arith, e, h)) ∙ sym (ne_eqb x c (λ e. omega (arith, e, h, l))))

any_cells : (x : ℕ) (before : List ℕ) → x < 65535 → any (eqb x) (map stop_cell before) ≡ any (eqb x) before
any_cells x [] h = refl
any_cells x (c ∷ cs) h = rw (cell_equal x c h, any_cells x cs h)

-- row 6, of one stop
cell_passes : (p : Problem) (before : List ℕ) (c : ℕ) → p.roads.size ≤ 65535 → stop_passes p (map stop_cell before) (stop_cell c) ≡ stop_passes p before c
unfolding stop_passes
cell_passes p before c h = go (ltb c p.roads.size) refl
  where
    tests : Bool → List ℕ → ℕ → Bool
    tests b l x = b && (not (eqb x (depot p)) && not (any (eqb x) l))

    go : (b : Bool) → ltb c p.roads.size ≡ b → tests (ltb (stop_cell c) p.roads.size) (map stop_cell before) (stop_cell c) ≡ tests (ltb c p.roads.size) before c
    go false e = rw (cell_place p.roads.size c h, e)
    go true e =
        let l : c < p.roads.size = ltb-true c p.roads.size e in
        let s : c < 65535 = omega (arith, l, h) in
        ap (λ x. tests (ltb x p.roads.size) (map stop_cell before) x) (cell_same c (omega (arith, s)))
        ∙ ap (λ b. ltb c p.roads.size && (not (eqb c (depot p)) && not b)) (any_cells c before s)

every_same : (t u : ℕ → Bool) (m k : ℕ) → ((i : ℕ) → t i ≡ u i) → every t m k ≡ every u m k
unfolding every
every_same t u zero k e = refl
every_same t u (suc m) k e = rw (e k, every_same t u m (suc k) e)

take_cells : (k : ℕ) (l : List ℕ) → take k (map stop_cell l) ≡ map stop_cell (take k l)
take_cells zero l = refl
take_cells (suc k) [] = refl
take_cells (suc k) (c ∷ l) = ap (λ m. stop_cell c ∷ m) (take_cells k l)

-- row 6, of all stops
pub cells_pass : (p : Problem) (stops : List ℕ) → p.roads.size ≤ 65535 → stops_pass p (map stop_cell stops) ≡ stops_pass p stops
unfolding stops_pass
cells_pass p stops h =
    ap (λ n. every (λ k. stop_passes p (take k (map stop_cell stops)) (get_or (map stop_cell stops) k 0)) n 0) (length-map stops stop_cell)
    ∙ every_same (λ k. stop_passes p (take k (map stop_cell stops)) (get_or (map stop_cell stops) k 0)) (λ k. stop_passes p (take k stops) (get_or stops k 0)) (length stops) 0
    (λ k. ap (λ l. stop_passes p l (get_or (map stop_cell stops) k 0)) (take_cells k stops)
    ∙ ap (λ c. stop_passes p (map stop_cell (take k stops)) c) (get_or-map stop_cell stops k 0)
    ∙ cell_passes p (take k stops) (get_or stops k 0) h)

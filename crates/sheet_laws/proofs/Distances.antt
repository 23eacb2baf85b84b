-- The distances of a sheet are whole numbers of at most nine digits, so a route's distance is their sum, with nothing rounded, and prints as that
-- number. Assumes nothing.
use Prim.Native.Nat.{ℕ, suc, ◌+◌, ◌*◌, ◌^◌, ◌≤◌, ◌<◌}
use mathlib.Core.Path.{◌≡◌, ap, sym, ◌∙◌, subst}
use mathlib.Core.List.{List, [], ◌∷◌, map}
use native.Mathlib.Omega.{arith}
use native.Mathlib.Nat.{suc-mul, zero-mul}
use lib.Dec.{T}
use lib.ListN.{length, get_or, length-map, get_or-map}
use lib.Ieee.{Float, nan, binary64, in_unsigned}
use Rattle.entry.specs.floats.Binary64.{◌⊕◌}
use Rattle.entry.specs.floats.Whole.{nat, nat_zero, nat_add, nat_back}
use Rattle.entry.specs.laws.All.{All, all_cons, all_get}
use Rattle.entry.specs.laws.Lists.{get_d_any}
use Rattle.entry.specs.laws.Matrix.{in_matrix}
use Rattle.entry.specs.models.Problem.{matrix}
use Rattle.entry.specs.distance.Matrix.{get}
use Rattle.entry.specs.route_cost.Route.{legs, route_distance}
use Rattle.listing.specs.Listing.{whole}

-- the matrix of n × n whole numbers, none above `most`
module _ (n : ℕ) (cells : List ℕ) (times : List Float) (size : length cells ≡ n * n) (most : ℕ) (small : All (λ v. v ≤ most) cells) where
  unfoldable pub leg : ℕ → ℕ → ℕ
  leg from to = get_or cells (from * n + to) 0

  module _ (from to : ℕ) (f : from < n) (t : to < n) where
    in_cells : from * n + to < length cells
    in_cells = omega (arith, in_matrix n from to f t, size)

    leg_is : get (matrix n (map nat cells) times) from to ≡ nat (leg from to)
    unfolding leg
    leg_is =
        get_d_any (map nat cells) (from * n + to) nan (nat 0) (omega (arith, in_cells, length-map cells nat))
        ∙ get_or-map nat cells (from * n + to) 0

    leg_small : leg from to ≤ most
    unfolding leg
    leg_small = all_get (from * n + to) 0 small in_cells

  module _ (depot : ℕ) (home : depot < n) where
    -- the way that has come so far to prev and goes on over the stops to the depot
    unfoldable pub way : ℕ → ℕ → List ℕ → ℕ
    way far prev [] = far + leg prev depot
    way far prev (c ∷ cs) = way (far + leg prev c) c cs

    legs_whole
        : (cs : List ℕ) (far prev : ℕ)
        → prev < n
        → All (λ c. c < n) cs
        → far + suc (length cs) * most ≤ 2 ^ 53
        → (legs (matrix n (map nat cells) times) depot (nat far) prev cs ≡ nat (way far prev cs)) × (way far prev cs ≤ far + suc (length cs) * most)
    unfolding legs way
    legs_whole [] far prev p a b =
        let l = leg_small prev depot p home in
        let m : far + most ≤ 2 ^ 53 = omega (arith, b, suc-mul 0 most, zero-mul most) in
        (ap (λ x. nat far ⊕ x) (leg_is prev depot p home) ∙ nat_add far (leg prev depot) (omega (arith, m)) (omega (arith, l, m)), omega (arith, l, suc-mul 0 most, zero-mul most))
    legs_whole (c ∷ cs) far prev p (all_cons q a) b =
        let l = leg_small prev c p q in
        let s = suc-mul (suc (length cs)) most in
        let m : far + leg prev c ≤ 2 ^ 53 = omega (arith, b, s, l) in
        let e : nat far ⊕ get (matrix n (map nat cells) times) prev c ≡ nat (far + leg prev c) =
        ap (λ x. nat far ⊕ x) (leg_is prev c p q) ∙ nat_add far (leg prev c) (omega (arith, m)) (omega (arith, m)) in
        let r = legs_whole cs (far + leg prev c) c q a (omega (arith, b, s, l)) in
        (ap (λ x. legs (matrix n (map nat cells) times) depot x c cs) e ∙ r.0, omega (arith, r.1, s, l))

    -- the way of a whole route
    unfoldable pub distance_of : List ℕ → ℕ
    distance_of [] = 0
    distance_of (c ∷ cs) = way (leg depot c) c cs

    -- a route's distance is that of its way, and prints as it
    pub distance_whole
        : (route : List ℕ)
        → All (λ c. c < n) route
        → suc (length route) * most ≤ 2 ^ 53
        → (route_distance (matrix n (map nat cells) times) depot route ≡ nat (distance_of route)) × (distance_of route ≤ 2 ^ 53)
    unfolding route_distance distance_of
    distance_whole [] a b = (sym nat_zero, omega arith)
    distance_whole (c ∷ cs) (all_cons q a) b =
        let l = leg_small depot c home q in
        let s = suc-mul (suc (length cs)) most in
        let r = legs_whole cs (leg depot c) c q a (omega (arith, b, s, l)) in
        (ap (λ x. legs (matrix n (map nat cells) times) depot x c cs) (leg_is depot c home q) ∙ r.0, omega (arith, r.1, b, s, l))

    pub distance_prints
        : (route : List ℕ)
        → All (λ c. c < n) route
        → suc (length route) * most ≤ 2 ^ 53
        → T (in_unsigned binary64 64 (route_distance (matrix n (map nat cells) times) depot route))
        × (whole (route_distance (matrix n (map nat cells) times) depot route) ≡ distance_of route)
    distance_prints route a b =
        let d = distance_whole route a b in
        let w = nat_back (distance_of route) d.1 in
        (subst (λ x. T (in_unsigned binary64 64 x)) (sym d.0) w.0, ap whole d.0 ∙ w.1)

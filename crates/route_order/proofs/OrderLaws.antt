-- The next route as the least of the picks that come after the last one. The idea: the best so far stands before the routes that are left, so that
-- of equals it stays. Assumes nothing.
use Prim.Native.Nat.{ℕ, ◌+◌, ◌<◌}
use Rattle.std.proofs.Common.{◌≡◌, refl, ◌∙◌, Bool, true, false, cond, List, [], ◌∷◌, ◌++◌, length, get_or, drop, map, Option, None, Some, filter, nat_cmp, arith, drop-cons, add-one}
use Rattle.std.specs.List.{reduce, enumerate_from}
use Rattle.std.specs.Option.{IfSome, option_to_list}
use Rattle.std.specs.Ordering.{ordering_then, min_by_ordering}
use Rattle.std.proofs.lemmas.Bool.Decides.{nat_tests}
use Rattle.plan.specs.laws.Loops.{loop, loop_none, loop_more, loop_end}
use Rattle.route_order.specs.declared.Pick.{Pick}
use Rattle.route_order.specs.Order.{is_after, shorter, considered, next_pick}

-- the pick of a route's index and length
abbrev pub pick_of : ℕ × ℕ → Pick
pick_of p = record { route = p.0; length = p.1 }

-- the lesser of two picks
abbrev pub lesser : Pick → Pick → Pick
lesser p z = min_by_ordering (ordering_then (nat_cmp p.length z.length) (nat_cmp p.route z.route)) p z

-- the least of the best so far and some picks
abbrev least : Option Pick → List Pick → Option Pick
least b ps = reduce lesser (option_to_list b ++ ps)

-- a look at route k: the best so far stands before it, and what it leaves stands before the next one
module _ (k n : ℕ) (ps : List Pick) where
  least_more : (t : Bool) (b : Option Pick) → IfSome b (λ p. p.route < k)
      → (least b (cond t (pick_of (k, n) ∷ ps) ps) ≡ least (cond t (shorter b k n) b) ps) × IfSome (cond t (shorter b k n) b) (λ p. p.route < k + 1)
  unfolding shorter
  least_more false None h = (refl, tt)
  least_more false (Some p) h = (refl, omega arith)
  least_more true None h = (refl, omega arith)
  least_more true (Some p) h = grind (arith, nat_tests)

module _ (ls : List ℕ) (last : Option Pick) where
  abbrev look : ℕ → Option Pick → Option Pick
  look k b = considered last b k (get_or ls k 0)

  -- the picks of some routes, from k on, that come after the last one
  abbrev after : ℕ → List ℕ → List Pick
  after k ms = filter (λ p. is_after last p.route p.length) (map pick_of (enumerate_from k ms))

  least_from : (ms : List ℕ) (k : ℕ) (b : Option Pick) → k + length ms ≡ length ls → ms ≡ drop k ls → b ≡ loop k look None → IfSome b (λ p. p.route < k)
      → least b (after k ms) ≡ next_pick ls last
  unfolding next_pick considered
  least_from [] k None s e f h = loop_end look None k (length ls) None f (omega arith)
  least_from [] k (Some p) s e f h = loop_end look None k (length ls) (Some p) f (omega arith)
  least_from (n ∷ ms) k b s e f h =
      let there : k < length ls = omega arith in
      let q : n ∷ ms ≡ get_or ls k 0 ∷ drop (k + 1) ls = rw (add-one, ← drop-cons ls k 0 there) e in
      let c = considered last b k n in
      let m = least_more k n (after (k + 1) ms) (is_after last k n) b h in
      m.0 ∙ least_from ms (k + 1) c (omega arith) (cc) (loop_more look None k b c f (cc)) m.1

  pub least_after : reduce lesser (after 0 ls) ≡ next_pick ls last
  least_after = least_from ls 0 None (omega arith) refl (loop_none look None) tt

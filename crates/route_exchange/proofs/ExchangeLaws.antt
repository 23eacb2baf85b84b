-- Two tails exchanged in the two slices, in the form that the proofs of the code want. Assumes nothing.
use Prim.Native.Nat.{ℕ, ◌+◌, ◌-◌, ◌≤◌, ◌<◌}
use mathlib.Core.Path.{◌≡◌}
use mathlib.Core.List.{List}
use native.Mathlib.Omega.{arith}
use lib.ListN.{length, get_or, set}
use mir.Syntax.{w16, w64}
use mir.Val.{Fits}
use Rattle.exchanged_stops.specs.laws.Exchanges.{swap_parts}
use Rattle.exchanged_stops.specs.plan.Plan.{Holds, Lent, HasPosition, split, total, offset, exchange_tails}
use Rattle.exchanged_stops.specs.plan.Given.{plan_of, Becomes}
use Rattle.exchanged_stops.specs.PlanRoutes.{Routes}
use Rattle.exchanged_stops.specs.plan.Slices.{route_within, route_before, position_within, position_route}
use Rattle.exchanged_stops.specs.PlanExchanges.{exchange_tails_slices, exchange_tails_comm}
use Rattle.exchanged_stops.specs.PlanPlanLaws.{position_upto, position_fits, position_length_fits, end_fits}

-- ---- two routes a and b, and what `offset` says of them

-- a before b
module _ (ls s : List ℕ) (a i b j : ℕ) (l : Lent ls s) (h : a < b) (f : HasPosition (split ls s) a i) (g : HasPosition (split ls s) b j) where
  first_cut : i ≤ get_or ls a 0
  first_cut = position_within ls s l a i f

  second_cut : j ≤ get_or ls b 0
  second_cut = position_within ls s l b j g

  lie : offset ls a + get_or ls a 0 ≤ offset ls b
  lie = route_before ls a b h (omega (arith, position_route ls s b j g))

  end : offset ls b + get_or ls b 0 ≤ length s
  end = omega (arith, l.inside, route_within ls b (position_route ls s b j g))

  -- the new lengths fit
  pub first_fits : Fits w64 (i + (get_or ls b 0 - j))
  first_fits = record { fits = omega (arith, lie, end, l.few, first_cut) }

  pub second_fits : Fits w64 (j + (get_or ls a 0 - i))
  second_fits = record { fits = omega (arith, lie, end, l.few, second_cut) }

  pub first_stored : Fits w16 (i + (get_or ls b 0 - j))
  first_stored = record { fits = omega (arith, lie, end, l.few, first_cut) }

  pub second_stored : Fits w16 (j + (get_or ls a 0 - i))
  second_stored = record { fits = omega (arith, lie, end, l.few, second_cut) }

  module _ (p q : ℕ) (ep : p ≡ offset ls a) (eq : q ≡ offset ls b) where
    pub first_in_order : p + i ≤ p + get_or ls a 0
    first_in_order = omega (arith, first_cut)

    pub tails_in_order : p + get_or ls a 0 ≤ q + j
    tails_in_order = omega (arith, lie)

    pub second_in_order : q + j ≤ q + get_or ls b 0
    second_in_order = omega (arith, second_cut)

    pub tails_there : q + get_or ls b 0 ≤ length s
    tails_there = omega (arith, end)

    pub tails_kept : (w : List ℕ) → length s ≤ length w → q + get_or ls b 0 - (p + i) ≤ length w
    tails_kept w r = omega (arith, end)

    pub exchange_tails_done : {s₁ : List ℕ} → s₁ ≡ swap_parts (p + i) (p + get_or ls a 0) (q + j) (q + get_or ls b 0) s
        → Holds (exchange_tails a i b j (split ls s)) (total ls) (set (set ls a (i + (get_or ls b 0 - j))) b (j + (get_or ls a 0 - i))) s₁
    exchange_tails_done e = rw (e, ep, eq) (exchange_tails_slices ls s a i b j h (position_route ls s b j g) first_cut second_cut l.inside)

    -- the tails exchanged are lent still
    pub tails_lent : {s₁ : List ℕ} → length s₁ ≡ length s → s₁ ≡ swap_parts (p + i) (p + get_or ls a 0) (q + j) (q + get_or ls b 0) s
        → Lent (set (set ls a (i + (get_or ls b 0 - j))) b (j + (get_or ls a 0 - i))) s₁
    tails_lent n e = let h = exchange_tails_done e in record { inside = omega (arith, h.sum, l.inside); few = omega (arith, l.few) }

pub ruleset tails_laws = (position_route, position_upto, position_within, position_fits, position_length_fits, end_fits, first_fits, second_fits, first_stored, second_stored)

-- the other order
pub exchange_tails_turned : (old new : Routes) (a i b j n : ℕ) → (a ≡ b → ⊥) → Becomes old (exchange_tails b j a i (plan_of old)) n new
    → Becomes old (exchange_tails a i b j (plan_of old)) n new
exchange_tails_turned old new a i b j n d h = rw (exchange_tails_comm a i b j (plan_of old) d) h

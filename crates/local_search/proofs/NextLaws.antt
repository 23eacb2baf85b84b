-- The start of a round, and its next attempt: what each answer says of the attempts from the last pick on, for any attempt that reduces plans.
-- Assumes nothing.
use Prim.Native.Nat.{ℕ, ◌+◌, ◌*◌, ◌≤◌, ◌<◌}
use mathlib.Core.Path.{◌≡◌, sym, ap, ◌∙◌}
use mathlib.Core.Bool.{not}
use mathlib.Core.List.{List, ◌∷◌}
use Rattle.std.proofs.Common.{Option, None, Some}
use native.Mathlib.Nat.{le_refl}
use native.Mathlib.Omega.{arith}
use lib.ListN.{length, take}
use lib.Dec.{eqb}
use Rattle.route_order.specs.laws.Counts.{same_length}
use Rattle.route_order.specs.laws.Keeps.{length_keep}
use Rattle.route_order.specs.declared.Pick.{Pick}
use Rattle.route_order.specs.plan.Plan.{Plan, Lent, split, flat, total, padded, drop_zero, drop_empty}
use Rattle.route_order.specs.Order.{next_pick, following}
use Rattle.route_order.specs.Following.{following_at, following_nothing, next_pick_inside}
use Rattle.route_order.specs.plan.Slices.{length_split, flat_split_all, lengths_split, total_lengths}
use Rattle.route_order.specs.plan.Dropped.{length_padded, take_padded, total_drop_zero, drop_empty_slices, flat_drop_empty, occurs_drop_empty}
use Rattle.local_search.specs.declared.rounds.Counts.{Counts}
use Rattle.local_search.specs.Options.{each_found}
use Rattle.local_search.specs.Planned.{Planned, planned_as}
use Rattle.local_search.specs.Rounds.{Tried, Attempt, try_each}
use Rattle.local_search.specs.RoundRules.{try_next, try_taken}
use Rattle.local_search.specs.Reduced.{Better, Bounded, Reduces}
use Rattle.local_search.specs.Search.{EndsWith0, but_last, Refused, Taken}

-- ---- the start of a round

pub fewer_routes : (ls : List ℕ) → length (drop_zero ls) ≤ length ls
fewer_routes ls = length_keep (λ n. not (eqb n 0)) ls

-- L is what `drop_empty` leaves of ls, and k what it returns
module _ (ls L : List ℕ) (k : ℕ) (e : L ≡ padded (length ls) (drop_zero ls)) (c : k ≡ length (drop_zero ls)) where
  pub in_use : take k L ≡ drop_zero ls
  in_use = rw (c, e) (take_padded (length ls) (drop_zero ls))

  pub begun_long : length L ≡ length ls
  begun_long = ap length e ∙ length_padded (length ls) (drop_zero ls) (fewer_routes ls)

  pub count_within : k ≤ length L
  count_within = omega (arith, c, begun_long, fewer_routes ls)

  module _ (s : List ℕ) (l : Lent ls s) where
    pub begun_lent : Lent (take k L) s
    begun_lent = rw in_use (record { inside = omega (arith, total_drop_zero ls, l.inside); few = l.few })

    pub begun_routes : split (take k L) s ≡ drop_empty (split ls s)
    begun_routes = rw in_use (drop_empty_slices ls s l.inside)

    pub begun_planned : (n : ℕ) → Planned n (split ls s) → Planned n (split (take k L) s)
    begun_planned n h =
        rw begun_routes
        (planned_as n (split ls s) (drop_empty (split ls s)) (omega (arith, ap length (flat_drop_empty (split ls s)))) (λ x. occurs_drop_empty x (split ls s)) h)

-- ---- the next attempt

module _ (ls : List ℕ) (last x : Option Pick) (e : x ≡ next_pick ls last) where
  pub no_pick : (f : Attempt) (routes : Plan) (n : Counts) → x ≡ None → ◌≡◌ {A = Tried} (record { plan = None; counts = n }) (try_each f routes (following ls last) n)
  unfolding try_each
  no_pick f routes n h = sym (ap (λ (rs : List ℕ). try_each f routes rs n) (following_nothing ls last (sym e ∙ h)))

  module _ (pick : Pick) (h : x ≡ Some pick) where
    pub pick_there : pick.route < length ls
    pick_there = (next_pick_inside ls last pick.route pick.length (sym e ∙ h)).0

    picks : following ls last ≡ pick.route ∷ following ls (Some pick)
    picks = following_at ls last pick.route pick.length (sym e ∙ h)

    -- of at most `limit` steps
    module _ (attempt : Attempt) (limit : ℕ) (g : Reduces attempt limit) (s : List ℕ) (n m : Counts) (L S : List ℕ) (d : n.draws ≤ 500 * n.steps) where
      abbrev answer : Tried
      answer = attempt (split ls s) pick.route n

      bounded : m ≡ answer.counts → Bounded (limit + n.steps) m
      bounded q = rw q (g.bounded (limit + n.steps) (split ls s) pick.route n (le_refl (limit + n.steps)) d)

      -- the plan is kept
      module _ (t : ◌≡◌ {A = Tried} (record { plan = None; counts = m }) answer) where
        pub next_kept : try_each attempt (split ls s) (following ls (Some pick)) m ≡ try_each attempt (split ls s) (following ls last) n
        next_kept =
            sym (ap (λ (rs : List ℕ). try_each attempt (split ls s) rs n) picks
            ∙ try_next attempt (split ls s) pick.route (following ls (Some pick)) n (sym (ap (λ (y : Tried). y.plan) t))
            ∙ ap (λ (y : Tried). try_each attempt (split ls s) (following ls (Some pick)) y.counts) (sym t))

        pub next_refused : L ≡ ls → S ≡ s → Refused limit ls s last n pick m L S
        next_refused a b = record { same_lengths = a; same_stops = b; counted = bounded (ap (λ (y : Tried). y.counts) t); pick_less = ap length picks }

      -- the one without the route is accepted
      module _ (t : ◌≡◌ {A = Tried} (record { plan = Some (split (but_last L) S); counts = m }) answer) where
        pub next_accepted : ◌≡◌ {A = Tried} (record { plan = Some (split (but_last L) S); counts = m }) (try_each attempt (split ls s) (following ls last) n)
        next_accepted =
            sym (ap (λ (rs : List ℕ). try_each attempt (split ls s) rs n) picks
            ∙ try_taken attempt (split ls s) pick.route (following ls (Some pick)) n (split (but_last L) S) (sym (ap (λ (y : Tried). y.plan) t))
            ∙ ap (λ (y : Tried). record { plan = Some (split (but_last L) S); counts = y.counts }) (sym t))

        pub next_taken : (size : ℕ) → total ls ≡ length s → length S ≡ length s → Planned size (split ls s) → EndsWith0 L S → Taken limit size ls last n m L S
        next_taken size whole long planned ends =
            let plan = split (but_last L) S in
            let there : pick.route < length (split ls s) = rw length_split pick_there in
            let better : Better (λ q. Unit) (split ls s) plan =
            each_found (Better (λ q. Unit) (split ls s)) answer.plan (sym (ap (λ (y : Tried). y.plan) t)) (g.better (split ls s) pick.route n there) in
            let long-flat : length (flat plan) ≡ length (flat (split ls s)) = same_length (flat plan) (flat (split ls s)) better.places in
            record {
              ends = ends;
              counted = bounded (ap (λ (y : Tried). y.counts) t);
              planned = planned_as size (split ls s) plan (omega (arith, long-flat)) better.places planned;
              whole = ap total (sym (lengths_split (but_last L) S ends.lent.inside)) ∙ total_lengths plan ∙ long-flat ∙ ap length (flat_split_all ls s whole) ∙ sym long;
              pick_left = omega (arith, ap length picks);
            }

-- A plan over n places, which the searches ask for and keep: row 6 of the table leaves it so. Assumes nothing.
use Rattle.std.specs.Prelude.{ℕ, zero, suc, ◌+◌, ◌≤◌, ◌<◌, ◌≡◌, refl, Bool, true, false, List, [], ◌∷◌, ◌++◌, length, get_or, leb, eqb}
use Rattle.std.proofs.Common.{sym, ap, ◌∙◌, le_of_suc-le-suc, not-suc-le-zero, arith, eq-eqb, leb-true, leb-false, length-append}
use Rattle.route_order.specs.laws.All.{All, all_nil, all_cons}
use Rattle.route_order.specs.laws.Counts.{one_if, count, count_append}
use Rattle.route_load.specs.models.Problem.{Stops}
use Rattle.route_order.specs.plan.Plan.{Plan, flat, occurs, split, total, Lent}
use Rattle.route_order.specs.plan.Slices.{flat_split, holds_self, holds_number}

-- no place but 0 to n − 1 is a stop, and there are no more stops than there can be places
pub record Planned (n : ℕ) (plan : Plan) : Type 0 where
  pub few : length (flat plan) ≤ 256
  pub places : (c : ℕ) → n ≤ c → occurs c plan ≡ 0

-- a list without the places from n on has those below n only
below : (n : ℕ) (l : List ℕ) → ((c : ℕ) → n ≤ c → count c l ≡ 0) → (k : ℕ) → k < length l → get_or l k 0 < n
unfolding count one_if
below n [] h k i = absurd (not-suc-le-zero i)
below n (x ∷ l) h zero i = go (leb n x) refl
  where
    go : (t : Bool) → leb n x ≡ t → x < n
    go true e =
        let z : one_if (eqb x x) + count x l ≡ 0 = h x (leb-true n x e) in
        let o : one_if (eqb x x) ≡ 1 = ap one_if (eq-eqb x x refl) in
        absurd (omega (arith, z, o))
    go false e = omega (arith, leb-false n x e)
below n (x ∷ l) h (suc k) i = below n l (λ c g. omega (arith, h c g)) k (le_of_suc-le-suc i)

-- each route of such a plan is one of stops
pub planned_stops : (n : ℕ) (plan : Plan) → Planned n plan → All (Stops n) plan
unfolding flat
planned_stops n plan h = go plan h.few h.places
  where
    go : (plan : Plan) → length (flat plan) ≤ 256 → ((c : ℕ) → n ≤ c → occurs c plan ≡ 0) → All (Stops n) plan
    go [] f g = all_nil
    go (r ∷ rs) f g =
        let first : Stops n r = record { few = omega (arith, length-append r (flat rs)); each = below n r (λ c i. omega (arith, count_append c r (flat rs), g c i)) } in
        all_cons first (go rs (omega (arith, length-append r (flat rs))) (λ c i. omega (arith, count_append c r (flat rs), g c i)))

-- another plan with the same places, and no more stops
pub planned_as : (n : ℕ) (plan x : Plan) → length (flat x) ≤ length (flat plan) → ((c : ℕ) → occurs c x ≡ occurs c plan) → Planned n plan → Planned n x
planned_as n plan x l e h = record { few = omega (arith, h.few); places = λ c i. e c ∙ h.places c i }

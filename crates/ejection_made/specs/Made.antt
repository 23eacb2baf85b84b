-- The ejection made on the plan and on the pool: two edits of the plan for one stop, three for two; and the pool. Assumes nothing.
use Rattle.std.specs.Prelude.{ℕ, suc, ◌+◌, ◌-◌, ◌<◌, ◌≡◌, get_or, set, take}
use Rattle.std.proofs.Common.{sym, ap, ◌∙◌, le_refl, arith, eq-eqb, ne_eqb}
use mathlib.Core.List.{List, [], ◌∷◌, ◌++◌, reverse, reverse-append}
use Rattle.std.proofs.Math.ListN.{length, length-set, length-append}
use Rattle.std.proofs.Math.Seq.{get_or-set_same, set-set, take-suc, take_all}
use Rattle.arrayvec.specs.ArrayVec.{ArrayVec}
use Rattle.ejection.specs.laws.Edits.{erase}
use Rattle.ejection.specs.plan.Plan.{Plan, route, total, put_in, take_out}
use Rattle.ejection.specs.plan.Given.{plan_of, Keeps}
use Rattle.ejection.specs.plan.declared.routes.Routes.{Routes}
use Rattle.ejection.specs.declared.Ejection.{Ejection}
use Rattle.ejection.specs.Eject.{ejected, make_room, gone}
use Rattle.ejection.specs.Ejected.{Inside, kept_one, kept_two}

-- ---- the plan

module _ (routes : Plan) (c : ℕ) (e : Ejection) (h : Inside routes e) where
  r : List ℕ
  r = route e.route routes

  -- one stop taken out, and c put in
  pub make_one : e.first ≡ e.second → put_in e.route e.pos c (take_out e.route e.first routes) ≡ make_room routes c e
  unfolding put_in take_out make_room r
  make_one s =
      rw (set-set routes e.route (erase e.first r), get_or-set_same routes e.route (erase e.first r) [] h.there, ← s, kept_one e.first r)

  -- two taken out, the later first, and c put in
  pub make_two : e.first < e.second
      → put_in e.route e.pos c (take_out e.route e.first (take_out e.route e.second routes)) ≡ make_room routes c e
  unfolding put_in take_out make_room r
  make_two s =
      let x = erase e.second r in
      let l : e.route < length (set routes e.route x) = rw length-set h.there in
      rw (
        get_or-set_same routes e.route x [] h.there,
        get_or-set_same (set routes e.route x) e.route (erase e.first x) [] l,
        set-set (set routes e.route x) e.route (erase e.first x),
        set-set routes e.route x,
        kept_two e.first e.second r s h.within,
      )

-- ---- the pool

-- as the code holds it, the stop on top last
abbrev pub Stack : Type 0
Stack = ArrayVec ℕ

-- the stops that wait, the one on top first
abbrev pub pooled : Stack → List ℕ
pooled pool = reverse pool.items

-- c lies on what waits in `under`, and nothing on c
pub record OnTop (under : Stack) (c : ℕ) (over : Stack) : Type 0 where
  pub stops : pooled over ≡ c ∷ pooled under
  pub count : length over.items ≡ length under.items + 1

-- a push
pub stack_push : (pool : Stack) (x : ℕ) → pooled (record { items = pool.items ++ x ∷ [] }) ≡ x ∷ pooled pool
stack_push pool x = reverse-append pool.items (x ∷ [])

-- a pop
pub stack_pop : (pool : Stack) → 0 < length pool.items
    → pooled pool ≡ get_or pool.items (length pool.items - 1) 0 ∷ pooled (record { items = take (length pool.items - 1) pool.items })
stack_pop pool h =
    let last = length pool.items - 1 in
    let e : length pool.items ≡ suc last = omega (arith, h) in
    ap reverse (sym (take_all (length pool.items) pool.items (le_refl _)) ∙ ap (λ (n : ℕ). take n pool.items) e ∙ take-suc pool.items last 0 (omega (arith, h)))
    ∙ stack_push (record { items = take last pool.items }) (get_or pool.items last 0)

pub on_top : {under over : Stack} {c : ℕ} → over.items ≡ under.items ++ c ∷ [] → OnTop under c over
on_top {under} {c = c} e = record { stops = ap reverse e ∙ stack_push under c; count = ap length e ∙ length-append under.items (c ∷ []) }

-- those ejected lie on top, the later one first
pub gone_one : (routes : Plan) (e : Ejection) → e.first ≡ e.second → reverse (gone routes e) ≡ get_or (route e.route routes) e.first 0 ∷ []
unfolding ejected
gone_one routes e s = rw (eq-eqb e.first e.second s)

pub gone_two : (routes : Plan) (e : Ejection) → e.first < e.second
    → reverse (gone routes e) ≡ get_or (route e.route routes) e.second 0 ∷ get_or (route e.route routes) e.first 0 ∷ []
unfolding ejected
gone_two routes e s =
    let n : e.first ≡ e.second → ⊥ = λ q. omega arith in
    rw (ne_eqb e.first e.second n)

-- ---- both

-- c has gone into the routes by an ejection: what stands in the same slices then, plan and pool together one stop more
pub record Made (old : Routes) (before : Stack) (c : ℕ) (e : Ejection) (new : Routes) (after : Stack) : Type 0 where
  pub plan : plan_of new ≡ make_room (plan_of old) c e
  pub sum : total new.lengths.now + length after.items ≡ total old.lengths.now + length before.items + 1
  pub top : pooled after ≡ reverse (gone (plan_of old) e) ++ pooled before
  pub kept : Keeps old new

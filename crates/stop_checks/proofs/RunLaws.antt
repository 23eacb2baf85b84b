-- Row 6 in code: what `all` keeps as it goes over the stops, where its closure marks them. The idea: what holds of the iterator and of the closure together is
-- carried over each call. Assumes nothing.
use Rattle.std.proofs.Common.{ℕ, ◌+◌, ◌≡◌, ◌≤◌, ◌<◌, List, [], ◌∷◌, ◌++◌, Bool, true, false, Option, None, Some, subst, length, take, drop, get_or, refl, arith, ap, sym, ◌∙◌, replicate, drop-drop, get_or-drop, length-drop}
use Rattle.std.specs.Iterator.{Yields, YieldsThen, CallableAtEachTurn}
use Rattle.std.specs.List.{FoldsTo}
use Rattle.std.specs.Option.{MatchOption}
use Rattle.length_checks.specs.laws.Passed.{Passed, passed_none, passed_one, passed_all, failed_one}
use Rattle.length_checks.specs.models.declared.problem.Problem.{Problem}
use Rattle.length_checks.specs.models.Lent.{of_problem}
use Rattle.length_checks.specs.entry.Table.{stop_passes, stops_pass}
use Rattle.stop_checks.specs.Marks.{Marks}
use Rattle.stop_checks.proofs.MarkLaws.{marks_start, marks_more}

module _ {S A P : Type 0} (steps : S → Option A → S → Type 0) {R : P → A → P → Type 0} (J : S → P → Type 0)
    (keeps : (s : S) (p : P) (x : A) (t : S) (q : P) → J s p → steps s (Some x) t → R p x q → J t q) where
  -- J holds after each run of calls
  pub runs : (xs : List A) (s t : S) (p q : P) → J s p → Yields steps s xs t → FoldsTo R p xs q → J t q
  runs [] s t p q j y f = subst (λ z. J t z) f (subst (λ z. J z p) y j)
  runs (x ∷ xs) s t p q j y f = runs xs y.0 t f.0 q (keeps s p x y.0 f.0 j y.1 f.1) y.2 f.2

  -- so the closure may be called wherever J holds
  pub serves : {Q : P → A → Type 0} {s : S} {p : P} → J s p → ((t : S) (q : P) (x : A) (u : S) → J t q → steps t (Some x) u → Q q x) → CallableAtEachTurn steps R Q s p
  serves {Q} {s} {p} j asks = record { at = λ xs t q x u y f e. asks t q x u (runs xs s t p q j y f) e }

-- `all` ended behind the last item, or at one that failed
pub ends : {S A P X : Type 0} (steps : S → Option A → S → Type 0) (R R₁ : P → A → P → Type 0) (J : S → P → Type 0) {s u : S} {p : P} (r : Bool)
    → ((xs : List A) × (o : Option A) × (q : P) × YieldsThen steps s xs o u × FoldsTo R p xs q × MatchOption o (r ≡ true) (λ x. (r ≡ false) × ((h : P) × R₁ q x h)))
    → ((s : S) (p : P) (x : A) (t : S) (q : P) → J s p → steps s (Some x) t → R p x q → J t q)
    → J s p
    → ((t : S) (q : P) → J t q → steps t None u → r ≡ true → X)
    → ((t : S) (q : P) (x : A) (h : P) (u : S) → J t q → steps t (Some x) u → r ≡ false → R₁ q x h → X)
    → X
ends {S} {A} {P} {X} steps R R₁ J {s} {u} {p} r (xs, o, q, (t, y, e), f, m) keeps j all one = go o e m
  where
    go : (o : Option A) → steps t o u → MatchOption o (r ≡ true) (λ x. (r ≡ false) × ((h : P) × R₁ q x h)) → X
    go None e m = all t q (runs steps J keeps xs s t p q j y f) e m
    go (Some x) e m = one t q x m.1.0 u (runs steps J keeps xs s t p q j y f) e m.0 m.1.1

-- the first k stops have passed and are marked, the rest is left
pub record Marked (stops : List ℕ) (p : Problem) (k : ℕ) (left : List ℕ) (seen : List Bool) (given : List ℕ) (asked : Problem) : Type 0 where
  pub rest : left ≡ drop k stops
  pub marks : Marks seen (take k stops)
  pub same : given ≡ stops
  pub of : asked ≡ p
  pub passed : Passed (λ i. stop_passes (of_problem p) (take i stops) (get_or stops i 0)) (length stops) k

pub marked_start : {stops : List ℕ} {p : Problem} {k : ℕ} {left : List ℕ} → k ≡ 0 → left ≡ stops → Marked stops p k left (replicate 256 false) stops p
marked_start e f = rw (e, f) (record { rest = refl; marks = marks_start; same = refl; of = refl; passed = passed_none _ _ })

module _ {stops : List ℕ} {p : Problem} {k : ℕ} {left : List ℕ} {seen : List Bool} {given : List ℕ} {asked : Problem} (m : Marked stops p k left seen given asked) where
  module _ {c : ℕ} {left₁ : List ℕ} (e : left ≡ c ∷ left₁) where
    some : k < length stops
    some = omega (arith, ap length (sym m.rest ∙ e), length-drop k stops)

    here : c ≡ get_or stops k 0
    here = let z : k + 0 ≡ k = omega arith in sym (rw z at (sym (get_or-drop k stops 0 0) ∙ ap (λ (l : List ℕ). get_or l 0 0) (sym m.rest ∙ e)))

    pub asks_place : {i : ℕ} → i ≡ k → i ≤ length given
    asks_place a = rw m.same (omega (arith, some))

    pub asks_marks : {i : ℕ} → i ≡ k → Marks seen (take i given)
    asks_marks a = rw (a, m.same) m.marks

    pub marked_more : {i k₁ : ℕ} {seen₁ : List Bool} {given₁ : List ℕ} {asked₁ : Problem} → i ≡ k → k₁ ≡ k + 1 → given₁ ≡ given → asked₁ ≡ asked
        → true ≡ stop_passes (of_problem asked) (take i given) c → Marks seen₁ (take i given ++ c ∷ []) → Marked stops p k₁ left₁ seen₁ given₁ asked₁
    marked_more {seen₁ = seen₁} a b g q v n =
        let v₁ : true ≡ stop_passes (of_problem p) (take k stops) (get_or stops k 0) = rw (← m.of, ← here, ← m.same, ← a) v in
        rw (b, g ∙ m.same, q ∙ m.of) (record {
          rest = ap (λ (l : List ℕ). drop 1 l) (sym e ∙ m.rest) ∙ drop-drop 1 k stops;
          marks = marks_more seen₁ stops k (rw (← here, ← m.same, ← a) n) some;
          same = refl;
          of = refl;
          passed = passed_one _ _ k m.passed true some v₁ refl;
        })

    pub one_failed : {i : ℕ} → i ≡ k → false ≡ stop_passes (of_problem asked) (take i given) c → false ≡ stops_pass (of_problem p) stops
    unfolding stops_pass
    one_failed a v = failed_one _ _ k m.passed false some (rw (← m.of, ← here, ← m.same, ← a) v) refl

  pub all_passed : length left ≡ 0 → true ≡ stops_pass (of_problem p) stops
  unfolding stops_pass
  all_passed e = passed_all _ _ k m.passed (omega (arith, ap length m.rest, e, length-drop k stops))

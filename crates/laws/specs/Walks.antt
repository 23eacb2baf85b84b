-- Walks over a list of stops that end at the first stop that cannot be served. The three walks over a route (its check, its evaluation,
-- its clock with a break) are of this form, so their laws are stated once, over the state S, the answer R, `on` that goes on with a state and
-- `next` that takes an answer further. Assumes nothing.
use Prim.Native.Nat.{ℕ, suc, ◌+◌, ◌≤◌, ◌<◌}
use Rattle.std.specs.Prelude.{◌≡◌, refl, get_or, take}
use Rattle.std.proofs.Math.Path.{sym, ap, subst}
use Rattle.std.proofs.Common.{◌∙◌, zero-add, drop_of_length-le, drop-cons}
use mathlib.Core.List.{List, [], ◌∷◌, ◌++◌}
use Rattle.std.proofs.Math.Numerals.{add-one}
use native.Mathlib.Omega.{arith}
use Rattle.std.proofs.Math.ListN.{length, drop}
use Rattle.laws.specs.All.{All, all_cons}
use Rattle.laws.specs.Edits.{insert_at}

-- the stops in order, from the state s, as far as they can be served
unfoldable pub walk : {S R : Type 0} → (S → R) → (R → (S → R) → R) → (S → ℕ → R) → List ℕ → S → R
walk on next step [] s = on s
walk on next step (c ∷ cs) s = next (step s c) (λ t. walk on next step cs t)

-- In code, over the stops by their index i: the whole walk is the walk over what is left, from the state s that is reached.
pub record Walking {S R : Type 0} (on : S → R) (next : R → (S → R) → R) (step : S → ℕ → R) (stops : List ℕ) (first s : S) (i : ℕ) : Type 0 where
  pub within : i ≤ length stops
  pub same : walk on next step stops first ≡ walk on next step (drop i stops) s

module _ {S R : Type 0} (on : S → R) (next : R → (S → R) → R) (step : S → ℕ → R) where
  walk_cons : (stops : List ℕ) (s : S) (i : ℕ) → i < length stops
      → walk on next step (drop i stops) s ≡ next (step s (get_or stops i 0)) (λ t. walk on next step (drop (i + 1) stops) t)
  unfolding walk
  walk_cons stops s i h = rw (drop-cons stops i 0 h, add-one i)

  -- the loop begins; a stop is served; a stop is not; no stop is left
  module _ (stops : List ℕ) (first : S) where
    pub walking_start : Walking on next step stops first first 0
    walking_start = record { within = omega arith; same = refl }

    pub walking_on : (s t : S) (i : ℕ) (r : R) → ((f : S → R) → next (on t) f ≡ f t) → Walking on next step stops first s i → i < length stops
        → r ≡ step s (get_or stops i 0) → r ≡ on t → Walking on next step stops first t (i + 1)
    walking_on s t i r goes w h e g =
        let k : S → R = λ u. walk on next step (drop (i + 1) stops) u in
        record { within = omega arith; same = w.same ∙ walk_cons stops s i h ∙ ap (λ (x : R). next x k) (sym e ∙ g) ∙ goes k }

    pub walking_stuck : (s : S) (i : ℕ) (r stuck : R) → ((f : S → R) → next stuck f ≡ stuck) → Walking on next step stops first s i → i < length stops
        → r ≡ step s (get_or stops i 0) → r ≡ stuck → stuck ≡ walk on next step stops first
    walking_stuck s i r stuck stays w h e g =
        let k : S → R = λ u. walk on next step (drop (i + 1) stops) u in
        sym (w.same ∙ walk_cons stops s i h ∙ ap (λ (x : R). next x k) (sym e ∙ g) ∙ stays k)

    pub walking_end : (s : S) (i : ℕ) → Walking on next step stops first s i → length stops ≤ i → on s ≡ walk on next step stops first
    unfolding walk
    walking_end s i w h = sym (w.same ∙ ap (λ (l : List ℕ). walk on next step l s) (drop_of_length-le stops h))

  -- ---- an answer is `stuck`, which stays, or `on s`, which goes on: what follows for a walk as a whole

  module _ (stuck : R) (goes : (s : S) (f : S → R) → next (on s) f ≡ f s) (stays : (f : S → R) → next stuck f ≡ stuck)
      (cases : (P : R → Type 0) → P stuck → ((s : S) → P (on s)) → (r : R) → P r) where
    next_next : (r : R) (f g : S → R) → next (next r f) g ≡ next r (λ s. next (f s) g)
    next_next r f g =
        cases (λ x. next (next x f) g ≡ next x (λ s. next (f s) g))
        (ap (λ (x : R). next x g) (stays f) ∙ stays g ∙ sym (stays (λ s. next (f s) g)))
        (λ s. ap (λ (x : R). next x g) (goes s f) ∙ sym (goes s (λ t. next (f t) g)))
        r

    next_same : (r : R) (f g : S → R) → ((s : S) → f s ≡ g s) → next r f ≡ next r g
    next_same r f g e = cases (λ x. next x f ≡ next x g) (stays f ∙ sym (stays g)) (λ s. goes s f ∙ e s ∙ sym (goes s g)) r

    -- a walk over two lists is one walk after the other
    pub walk_append : (xs ys : List ℕ) (s : S) → walk on next step (xs ++ ys) s ≡ next (walk on next step xs s) (λ t. walk on next step ys t)
    unfolding walk
    walk_append [] ys s = sym (goes s (λ t. walk on next step ys t))
    walk_append (c ∷ cs) ys s =
        next_same (step s c) (λ t. walk on next step (cs ++ ys) t) (λ t. next (walk on next step cs t) (λ u. walk on next step ys u)) (λ t. walk_append cs ys t)
        ∙ sym (next_next (step s c) (λ t. walk on next step cs t) (λ u. walk on next step ys u))

    -- a walk over a route with a stop put in is one over the front part, the stop, then the tail
    pub walk_insert : (pos c : ℕ) (route : List ℕ) (s : S)
        → walk on next step (insert_at pos c route) s
        ≡ next (walk on next step (take pos route) s) (λ t. next (step t c) (λ u. walk on next step (drop pos route) u))
    unfolding insert_at walk
    walk_insert pos c route s = walk_append (take pos route) (c ∷ drop pos route) s

    -- what each step keeps, the walk keeps
    pub walk_rule : (Q : R → Type 0) (C : ℕ → Type 0) → Q stuck → ((s : S) (c : ℕ) → C c → Q (on s) → Q (step s c))
        → (stops : List ℕ) (s : S) → All C stops → Q (on s) → Q (walk on next step stops s)
    unfolding walk
    walk_rule Q C q kept [] s a h = h
    walk_rule Q C q kept (c ∷ cs) s (all_cons p a) h =
        cases (λ r. Q r → Q (next r (λ t. walk on next step cs t)))
        (λ _. subst Q (sym (stays (λ t. walk on next step cs t))) q)
        (λ t g. subst Q (sym (goes t (λ u. walk on next step cs u))) (walk_rule Q C q kept cs t a g))
        (step s c) (kept s c p h)

    -- the same of a property that counts the stops, up to `most` of them
    count_on : (Q : ℕ → R → Type 0) (C : ℕ → Type 0) (most : ℕ) → ((k : ℕ) → Q k stuck)
        → ((k : ℕ) (s : S) (c : ℕ) → k < most → C c → Q k (on s) → Q (suc k) (step s c))
        → (stops : List ℕ) (k : ℕ) (s : S) → All C stops → k + length stops ≤ most → Q k (on s) → Q (k + length stops) (walk on next step stops s)
    unfolding walk
    count_on Q C most q kept [] k s a f h = let e : k + 0 ≡ k = omega arith in rw e h
    count_on Q C most q kept (c ∷ cs) k s (all_cons p a) f h =
        let e : k + suc (length cs) ≡ suc k + length cs = omega arith in
        cases (λ r. Q (suc k) r → Q (k + suc (length cs)) (next r (λ t. walk on next step cs t)))
        (λ _. subst (Q (k + suc (length cs))) (sym (stays (λ t. walk on next step cs t))) (q (k + suc (length cs))))
        (λ t g. subst (Q (k + suc (length cs))) (sym (goes t (λ u. walk on next step cs u))) (rw e (count_on Q C most q kept cs (suc k) t a (omega arith) g)))
        (step s c) (kept k s c (omega arith) p h)

    pub walk_count_rule : (Q : ℕ → R → Type 0) (C : ℕ → Type 0) (most : ℕ) → ((k : ℕ) → Q k stuck)
        → ((k : ℕ) (s : S) (c : ℕ) → k < most → C c → Q k (on s) → Q (suc k) (step s c))
        → (stops : List ℕ) (s : S) → All C stops → length stops ≤ most → Q 0 (on s) → Q (length stops) (walk on next step stops s)
    walk_count_rule Q C most q kept stops s a f h =
        subst (λ (k : ℕ). Q k (walk on next step stops s)) (zero-add (length stops)) (count_on Q C most q kept stops 0 s a (omega arith) h)

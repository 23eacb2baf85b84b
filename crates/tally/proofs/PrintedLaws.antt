-- The lines of kinds, one after the other. Assumes nothing.
use Rattle.std.proofs.Common.{◌≡◌, ℕ, zero, suc, ◌+◌, ◌<◌, ◌≤◌, List, [], ◌∷◌, ◌++◌, length, take, get_or, take_all, append-nil, append_assoc, add-one, sym, ap, ◌∙◌, arith}
use Rattle.stored_values.specs.declared.kinds.Kind.{Kind}
use Rattle.tally.specs.declared.Tally.{Tally}
use Rattle.tally.specs.Printed.{kind_line, kind_lines}

pub lines_more : (t : Tally) (d : Kind) (i : ℕ) (ks : List Kind) → i < length ks → kind_lines t (take i ks) ++ kind_line t (get_or ks i d) ≡ kind_lines t (take (suc i) ks)
unfolding kind_lines
lines_more t d i [] h = absurd (omega (arith, h))
lines_more t d zero (k ∷ ks) h = sym (append-nil _)
lines_more t d (suc i) (k ∷ ks) h =
    let e : kind_lines t (take i ks) ++ kind_line t (get_or ks i d) ≡ kind_lines t (take (suc i) ks) = lines_more t d i ks (omega (arith, h)) in
    append_assoc (kind_line t k) _ _ ∙ ap (λ (x : List ℕ). kind_line t k ++ x) e

pub lines_next : (t : Tally) (d : Kind) (i m : ℕ) (ks : List Kind) → m ≡ i + 1 → i < length ks → kind_lines t (take i ks) ++ kind_line t (get_or ks i d) ≡ kind_lines t (take m ks)
lines_next t d i m ks e h = rw (e, add-one i) (lines_more t d i ks h)

pub lines_all : (t : Tally) (i : ℕ) (ks : List Kind) (xs : List ℕ) → length ks ≤ i → kind_lines t (take i ks) ++ xs ≡ kind_lines t ks ++ xs
lines_all t i ks xs e = rw (take_all i ks e)

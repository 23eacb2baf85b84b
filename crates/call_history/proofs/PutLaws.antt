-- What is recorded: values put into a list. Assumes nothing.
use Prim.Native.Nat.{ℕ, ◌+◌, ◌≤◌}
use mathlib.Core.Path.{◌≡◌, ◌∙◌}
use mathlib.Core.List.{List, ◌++◌, append_assoc}
use native.Mathlib.Omega.{arith}
use lib.ListN.{length, take, drop, length-append}
use lib.Seq.{paste, take-length, length-take-le}
use Rattle.call_words.specs.laws.Lists.{paste_on}
use Rattle.call_words.specs.Words.{put}

-- one list after the other
pub put_both : (xs us vs : List ℕ) (at : ℕ) {ys zs : List ℕ} → at ≤ length xs
    → ys ≡ paste xs at us (length us) → zs ≡ paste ys (at + length us) vs (length vs) → zs ≡ put xs at (us ++ vs)
put_both xs us vs at {ys} {zs} h e f =
    let l : length (take at xs ++ us) ≡ at + length us = rw (length-append, length-take-le at xs h) in
    let y : ys ≡ take at xs ++ us ++ drop (at + length us) xs = e ∙ rw (take-length us) in
    let k : at + length us + length vs ≡ at + (length us + length vs) = omega arith in
    f ∙ rw (y, paste_on xs (take at xs ++ us) vs (at + length us) (length vs) l, take-length vs, append_assoc (take at xs) us vs, length-append us vs, k)

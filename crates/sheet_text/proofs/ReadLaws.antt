-- A reading that goes on where its first part was read: the ruleset `reads`. Assumes nothing.
use Prim.Native.Nat.{ℕ}
use mathlib.Core.Path.{◌≡◌, refl, sym, ◌∙◌}
use native.Mathlib.Omega.{arith}
use mathlib.Core.Bool.{Bool, true, false}
use borrow.Author.Tests.{eq-eqb, ne_eqb}
use Rattle.std.specs.Prelude.{Result, Ok, Err}
use Rattle.std.specs.Result.{IsErrAnd}
use Rattle.std.proofs.lemmas.Result.{err_from_is_err_and}
use Rattle.refusal.specs.Number.{number}
use Rattle.refusal.specs.declared.Refusal.{Refusal}
use Rattle.sheet_text.specs.Text.{Reading, refused, got, map_reading, Parser, ◌>>=◌, pure, byte_at, check, look, minus, if_minus}
use Rattle.sheet_text.specs.Told.{Reads, told, told_as, given, seen}
use Rattle.sheet_text.specs.declared.Text.{Text}

-- ---- one thing after another

module _ {A B : Type 0} {p : Parser A} (f : A → Parser B) {t u : Text} where
  -- where a was read, what follows is read behind it
  pub then : {w : Text} {said : ℕ → Reading B} {a : A} → Reads p t (got a) u → Reads (f a) u said w → Reads (p >>= f) t said w
  then h g = record { read = g.read ∙ rw (h.same, ← h.read) refl; same = g.same ∙ h.same }

  -- where it was refused, so is the whole
  pub stop : {n : ℕ} → Reads p t (λ at. refused n) u → Reads (p >>= f) t (λ at. refused n) u
  stop h = record { read = rw (← h.read) refl; same = h.same }

-- what follows was read behind an answer that was handed on
pub resumed : {A B : Type 0} {p : Parser A} (f : A → Parser B) {t u w : Text} {said : ℕ → Reading B} (r : Result A Refusal)
    → Reads p t (told r) u → Reads (given r >>= f) u said w → Reads (p >>= f) t said w
resumed f (Ok a) h g = then f h g
resumed f (Err k) h g = record { read = g.read ∙ rw (← h.read) refl; same = g.same ∙ h.same }

pub done : {A : Type 0} (a : A) (t : Text) → Reads (pure a) t (got a) t
done a t = record { read = refl; same = refl }

-- ---- tests

module _ {b : Bool} (n : ℕ) {t : Text} where
  pub passed : b ≡ true → Reads (check b n) t (got tt) t
  passed e = record { read = rw e refl; same = refl }

  pub failed : b ≡ false → Reads (check b n) t (λ at. refused n) t
  failed e = record { read = rw e refl; same = refl }

-- of the byte that comes next, x
module _ (test : ℕ → Bool) {t : Text} {x : ℕ} {b : Bool} (e : x ≡ byte_at t.bytes.now t.at) (is : b ≡ test x) where
  pub looked : b ≡ true → Reads (look test) t (got tt) t
  looked y = record { read = rw (← e, ← is, y) refl; same = refl }

  pub not_looked : b ≡ false → Reads (look test) t (λ at. refused 11) t
  not_looked y = record { read = rw (← e, ← is, y) refl; same = refl }

-- ---- what a `?` hands on

pub handed_on : {A : Type 0} {p : Parser A} {t u : Text} (r : Result A Refusal) (k : Refusal) → IsErrAnd r (λ y. y ≡ k) → Reads p t (λ at. refused (number k)) u → Reads p t (told r) u
handed_on r k e h =
    let x = err_from_is_err_and r e in
    rw (x.1, x.2) h

-- the same of an answer that is seen through a function
pub handed_as : {A B : Type 0} (f : A → B) {p : Parser B} {t u : Text} (r : Result A Refusal) (k : Refusal)
    → IsErrAnd r (λ y. y ≡ k) → Reads p t (λ at. refused (number k)) u → Reads p t (told_as f r) u
handed_as f r k e h =
    let x = err_from_is_err_and r e in
    rw (x.1, x.2) h

-- ---- what is read, seen through a function

module _ {A B : Type 0} (f : A → B) {p : Parser A} {t u : Text} where
  pub seen_got : {a : A} → Reads p t (got a) u → Reads (seen f p) t (got (f a)) u
  seen_got h = record { read = rw (← h.read) refl; same = h.same }

  pub seen_refused : {n : ℕ} → Reads p t (λ at. refused n) u → Reads (seen f p) t (λ at. refused n) u
  seen_refused h = record { read = rw (← h.read) refl; same = h.same }

  -- and back
  pub got_of : {b : B} → Reads (seen f p) t (got b) u → (a : A) × Reads p t (got a) u × (b ≡ f a)
  got_of h =
      let x = read_of (p t.bytes.now t.at) h.read in
      (x.0, record { read = x.1; same = h.same }, x.2)
    where
      read_of : (r : Reading A) {b : B} {i : ℕ} → got b i ≡ map_reading f r → (a : A) × (got a i ≡ r) × (b ≡ f a)
      read_of (got a j) e = (a, cc, cc)
      read_of (refused n) e =
          let z : ◌≡◌ {A = ℕ} 0 1 = cc in
          absurd (omega arith)

  pub refused_of : {n : ℕ} → Reads (seen f p) t (λ at. refused n) u → Reads p t (λ at. refused n) u
  refused_of h = record { read = refusal_of (p t.bytes.now t.at) h.read; same = h.same }
    where
      refusal_of : (r : Reading A) {n : ℕ} → refused n ≡ map_reading f r → refused n ≡ r
      refusal_of (refused m) e = cc
      refusal_of (got a j) e =
          let z : ◌≡◌ {A = ℕ} 0 1 = cc in
          absurd (omega arith)

-- what follows, seen through a function
module _ {A B C : Type 0} (f : B → C) {p : Parser A} (q : A → Parser B) {t u : Text} where
  pub seen_then : {w : Text} {said : ℕ → Reading C} {a : A} → Reads p t (got a) u → Reads (seen f (q a)) u said w → Reads (seen f (p >>= q)) t said w
  seen_then h g = record { read = g.read ∙ rw (h.same, ← h.read) refl; same = g.same ∙ h.same }

  pub seen_stop : {n : ℕ} → Reads p t (λ at. refused n) u → Reads (seen f (p >>= q)) t (λ at. refused n) u
  seen_stop h = seen_refused f (stop q h)

-- ---- loops

-- what whole comes to where the text was is what rest comes to where it is now
pub record Left {A : Type 0} (whole : Parser A) (old : Text) (rest : Parser A) (now : Text) : Type 0 where
  pub read : whole old.bytes.now old.at ≡ rest now.bytes.now now.at
  pub same : now.bytes.now ≡ old.bytes.now

module _ {A : Type 0} {whole : Parser A} {old : Text} {rest : Parser A} {t u : Text} (l : Left whole old rest t) where
  pub ends : {said : ℕ → Reading A} → Reads rest t said u → Reads whole old said u
  ends h = record { read = h.read ∙ sym l.read; same = h.same ∙ l.same }

  pub goes_on : (next : Parser A) → Left rest t next u → Left whole old next u
  goes_on next h = record { read = l.read ∙ h.read; same = h.same ∙ l.same }

-- what is left where a was read
pub behind : {A B : Type 0} {p : Parser A} (f : A → Parser B) {t u : Text} {a : A} → Reads p t (got a) u → Left (p >>= f) t (f a) u
behind f h = record { read = rw (h.same, ← h.read) refl; same = h.same }

-- ---- a minus sign that comes next

module _ {A : Type 0} (p q : Parser A) {t w : Text} {said : ℕ → Reading A} {x : ℕ} (e : x ≡ byte_at t.bytes.now t.at) where
  pub minus_here : x ≡ minus → Reads p t said w → Reads (if_minus p q) t said w
  minus_here m h = record { read = h.read ∙ rw (eq-eqb _ minus (sym e ∙ m)); same = h.same }

  pub no_minus : (x ≡ minus → ⊥) → Reads q t said w → Reads (if_minus p q) t said w
  no_minus m h = record { read = h.read ∙ rw (ne_eqb _ minus (λ z. m (e ∙ z))); same = h.same }

pub ruleset reads = (then, stop, done, passed, failed, looked, not_looked, minus_here, no_minus)

-- what is seen through a function
pub ruleset seen_reads = (seen_got, seen_refused, seen_then, seen_stop, handed_as)

-- `Option` as the answer of a search: what follows from one that is there, and a property of what was found. Assumes nothing.
use Rattle.std.specs.Prelude.{◌≡◌, Bool}
use Rattle.std.proofs.Math.Path.{refl}
use Rattle.std.proofs.Common.{subst}
use Rattle.std.proofs.Math.Bool.{true, false}
use Rattle.std.specs.Prelude.{Option, None, Some}

-- `?`, and `if let Some(a) = o`
unfoldable pub bind : {A B : Type 0} → Option A → (A → Option B) → Option B
bind None f = None
bind (Some a) f = f a

-- `bool::then_some`
unfoldable pub then_some : {A : Type 0} → Bool → A → Option A
then_some true a = Some a
then_some false a = None

-- `Option::or`
unfoldable pub or_else : {A : Type 0} → Option A → Option A → Option A
or_else None b = b
or_else (Some a) b = Some a

-- ---- a property of what is there

abbrev pub Each : {A : Type 0} → (A → Type 0) → Option A → Type 0
Each P None = Unit
Each P (Some a) = P a

module _ {A : Type 0} (P : A → Type 0) where
  pub each_found : (o : Option A) {a : A} → o ≡ Some a → Each P o → P a
  each_found o e h = subst (Each P) e h

  pub each_then_some : (b : Bool) (a : A) → (b ≡ true → P a) → Each P (then_some b a)
  unfolding then_some
  each_then_some true a h = h refl
  each_then_some false a h = tt

  pub each_or_else : (a b : Option A) → Each P a → Each P b → Each P (or_else a b)
  unfolding or_else
  each_or_else None b h k = k
  each_or_else (Some x) b h k = h

pub each_bind : {A B : Type 0} (P : A → Type 0) (Q : B → Type 0) (o : Option A) (f : A → Option B) → ((a : A) → P a → Each Q (f a)) → Each P o → Each Q (bind o f)
unfolding bind
each_bind P Q None f step h = tt
each_bind P Q (Some a) f step h = step a h

pub each_both : {A : Type 0} (P Q : A → Type 0) (o : Option A) → Each P o → Each Q o → Each (λ a. P a × Q a) o
each_both P Q None h k = tt
each_both P Q (Some a) h k = (h, k)

pub each_map : {A : Type 0} (P Q : A → Type 0) (o : Option A) → ((a : A) → P a → Q a) → Each P o → Each Q o
each_map P Q None f h = tt
each_map P Q (Some a) f h = f a h

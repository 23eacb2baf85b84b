-- Reading a text by position: tokens, numbers, words and lines as the sheet has them ("The rest: bound and sheet"). Assumes nothing.
use Rattle.std.specs.Prelude.{ℕ, zero, suc, ◌+◌, ◌-◌, ◌*◌, Bool, true, false, cond, ◌&&◌, ◌||◌, List, [], ◌∷◌, get_or, leb, eqb, ℤ, pos, neg_ℤ}
use Rattle.std.specs.Prelude.{Option, None, Some}
use Prim.Native.String.{String, [] as ε, ◌∷◌ as ◌◁◌}
use Prim.Native.Char.{code}

-- What reading at a position comes to: the number of a refusal, or a value and the position after it.
pub data Reading (A : Type 0) : Type 0 where
  refused : ℕ → Reading A
  got : A → ℕ → Reading A

-- a text and a position in it
abbrev pub Parser : Type 0 → Type 0
Parser A = List ℕ → ℕ → Reading A

-- "read front to back to its first fault": what comes next is read only where this was
abbrev pub next : {A B : Type 0} → Reading A → (A → ℕ → Reading B) → Reading B
next (refused n) f = refused n
next (got a at) f = f a at

-- what was read, seen through a function
abbrev pub map_reading : {A B : Type 0} → (A → B) → Reading A → Reading B
map_reading f (refused n) = refused n
map_reading f (got a at) = got (f a) at

infixl 10 ◌>>=◌ ◌>>◌
abbrev pub ◌>>=◌ : {A B : Type 0} → Parser A → (A → Parser B) → Parser B
◌>>=◌ p f s at = next (p s at) (λ a i. f a s i)

abbrev pub ◌>>◌ : {A B : Type 0} → Parser A → Parser B → Parser B
◌>>◌ p q s at = next (p s at) (λ a i. q s i)

abbrev pub pure : {A : Type 0} → A → Parser A
pure a s at = got a at

-- ---- bytes

-- the bytes of a quoted text
abbrev pub bytes : String → List ℕ
bytes ε = []
bytes (c ◁ t) = code c ∷ bytes t

abbrev pub space : ℕ
space = 32

abbrev pub lf : ℕ
lf = 10

abbrev pub minus : ℕ
minus = 45

-- what stands behind the last byte: no byte has this value
abbrev pub end_of_file : ℕ
end_of_file = 256

-- the byte at a position, or the end of the file
abbrev pub byte_at : List ℕ → ℕ → ℕ
byte_at s at = get_or s at end_of_file

-- refused with a number unless a test holds
abbrev pub check : Bool → ℕ → Parser (Unit {0})
check true n s at = got tt at
check false n s at = refused n

-- the byte here, or the end of the file, passes a test; it is not taken
abbrev pub look : (ℕ → Bool) → Parser (Unit {0})
look f s at = check (f (byte_at s at)) 11 s at

-- one byte, taken
unfoldable pub byte : ℕ → Parser (Unit {0})
byte b s at = next (look (eqb b) s at) (λ u i. got tt (i + 1))

-- what p reads, and the byte b behind it
abbrev pub before : {A : Type 0} → ℕ → Parser A → Parser A
before b p = do
  a ← p
  byte b
  pure a

-- the bytes of a word
unfoldable pub word : List ℕ → Parser (Unit {0})
word [] = pure tt
word (b ∷ w) = do
  byte b
  word w

-- ---- numbers

abbrev pub is_digit : ℕ → Bool
is_digit b = leb 48 b && leb b 57

-- a token is the bytes up to the next space, LF or the end of the file
abbrev pub is_end : ℕ → Bool
is_end b = eqb b space || (eqb b lf || eqb b end_of_file)

-- at most k more digits behind the value v
unfoldable pub digits : ℕ → ℕ → Parser ℕ
digits zero v s at = got v at
digits (suc k) v s at = cond (is_digit (byte_at s at)) (digits k (v * 10 + (byte_at s at - 48)) s (at + 1)) (got v at)

-- "numbers are 1 to 9 digits"; the token ends behind them
unfoldable pub number : Parser ℕ
number = do
  look is_digit
  v ← digits 9 0
  look is_end
  pure v

-- a minus sign here picks the first, anything else the second
abbrev pub either : {A : Type 0} → Bool → Parser A → Parser A → Parser A
either true p q = p
either false p q = q

abbrev pub if_minus : {A : Type 0} → Parser A → Parser A → Parser A
if_minus p q s at = either (eqb (byte_at s at) minus) p q s at

-- "only demand and capacity may have a minus sign before them"
unfoldable pub signed : Parser ℤ
signed =
    if_minus
    (do
      byte minus
      v ← number
      pure (neg_ℤ (pos v)))
    (do
      v ← number
      pure (pos v))

-- "A lone - is none"
unfoldable pub optional : Parser (Option ℕ)
optional =
    if_minus
    (do
      byte minus
      look is_end
      pure None)
    (do
      v ← number
      pure (Some v))

-- ---- lines

-- what stands behind a token with k more of its line to come: "Lines end in LF, tokens are split by one space"
abbrev pub ending : ℕ → ℕ
ending zero = lf
ending (suc k) = space

-- n things, one after the other; each is told how many are still to come
unfoldable pub repeat : {A : Type 0} → ℕ → (ℕ → Parser A) → Parser (List A)
repeat zero p = pure []
repeat (suc n) p = do
  a ← p n
  l ← repeat n p
  pure (a ∷ l)

-- the k numbers that end a line
abbrev pub line : ℕ → Parser (List ℕ)
line k = repeat k (λ left. before (ending left) number)

-- Numbers in decimal: "Numbers print in decimal without leading zeros, a negative load with its minus." Assumes nothing.
use Rattle.std.specs.Prelude.{ℕ, zero, suc, ◌+◌, ◌/◌, ◌%◌, ◌≡◌, refl, cond, List, [], ◌∷◌, ◌++◌, map, ltb, ℤ, pos, negsuc}
use Rattle.sheet_text.specs.Text.{bytes, minus}

-- a text of some pieces, one behind the other
unfoldable pub text : List (List ℕ) → List ℕ
text [] = []
text (x ∷ xs) = x ++ text xs

-- the digits of a number that has at most k of them, the most significant first
unfoldable pub digits : ℕ → ℕ → List ℕ
digits zero n = []
digits (suc k) n = cond (ltb n 10) ((48 + n) ∷ []) (digits k (n / 10) ++ ((48 + n % 10) ∷ []))

-- a u64 has at most 20 digits
abbrev pub decimal : ℕ → List ℕ
decimal n = digits 20 n

-- "a negative load with its minus"
unfoldable pub signed : ℤ → List ℕ
signed (pos n) = decimal n
signed (negsuc n) = minus ∷ decimal (suc n)

numbers : map decimal (0 ∷ 7 ∷ 10 ∷ 100 ∷ 999999999 ∷ 18446744073709551615 ∷ []) ≡ map bytes ("0" ∷ "7" ∷ "10" ∷ "100" ∷ "999999999" ∷ "18446744073709551615" ∷ [])
unfolding digits
numbers = refl

loads : map signed (pos 0 ∷ pos 9 ∷ negsuc 0 ∷ negsuc 19 ∷ []) ≡ map bytes ("0" ∷ "9" ∷ "-1" ∷ "-20" ∷ [])
unfolding digits signed
loads = refl

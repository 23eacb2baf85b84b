-- How many bytes a listing has at most: a number has 20 digits, and the rest is counted. Assumes nothing.
use Prim.Native.Nat.{ℕ, zero, suc, ◌+◌, ◌*◌, ◌/◌, ◌%◌, ◌≤◌}
use mathlib.Core.Path.{◌≡◌, refl}
use mathlib.Core.Bool.{Bool, true, false, cond}
use mathlib.Core.List.{List, [], ◌∷◌, ◌++◌}
use native.Mathlib.Omega.{arith}
use lib.Dec.{ltb}
use lib.IntN.{ℤ, pos, negsuc}
use lib.ListN.{length, length-append}
use Rattle.local_search.specs.models.Problem.{Problem}
use Rattle.local_search.specs.plan.Plan.{Plan, flat}
use Rattle.local_search.specs.declared.rounds.Counts.{Counts}
use Rattle.sheet_text.specs.Text.{bytes}
use Rattle.listing.specs.Decimal.{text, digits, decimal, signed}
use Rattle.listing.specs.Listing.{stop, stops, route_line, line_of, route_lines, first_line, last_line, listing, refusal_line}

digits_length : (k n : ℕ) → length (digits k n) ≤ k
unfolding digits
digits_length zero n = omega arith
digits_length (suc k) n = go (ltb n 10) (digits_length k (n / 10))
  where
    go : (b : Bool) → length (digits k (n / 10)) ≤ k → length (cond b ((48 + n) ∷ []) (digits k (n / 10) ++ ((48 + n % 10) ∷ []))) ≤ suc k
    go true h = omega arith
    go false h = omega (arith, length-append (digits k (n / 10)) ((48 + n % 10) ∷ []))

decimal_length : (n : ℕ) → length (decimal n) ≤ 20
decimal_length n = digits_length 20 n

signed_length : (z : ℤ) → length (signed z) ≤ 21
unfolding signed
signed_length (pos n) = omega (arith, decimal_length n)
signed_length (negsuc n) = omega (arith, decimal_length (suc n))

-- a text is as long as its pieces
pieces : List (List ℕ) → ℕ
pieces [] = 0
pieces (x ∷ xs) = length x + pieces xs

text_length : (xs : List (List ℕ)) → length (text xs) ≡ pieces xs
unfolding text pieces
text_length [] = refl
text_length (x ∷ xs) = omega (arith, length-append x (text xs), text_length xs)

stop_length : (c : ℕ) → length (stop c) ≤ 21
unfolding stop pieces
stop_length c = omega (arith, text_length (bytes " " ∷ decimal c ∷ []), decimal_length c)

stops_length : (r : List ℕ) → length (stops r) ≤ 21 * length r
unfolding stops
stops_length [] = omega arith
stops_length (c ∷ cs) = omega (arith, length-append (stop c) (stops cs), stop_length c, stops_length cs)

route_line_length : (number : ℕ) (load : ℤ) (distance : ℕ) (r : List ℕ) → length (route_line number load distance r) ≤ 64 + 21 * length r
unfolding route_line pieces
route_line_length number load distance r =
    omega (
      arith,
      text_length (decimal number ∷ bytes " " ∷ signed load ∷ bytes " " ∷ decimal distance ∷ stops r ∷ bytes "\n" ∷ []),
      decimal_length number,
      signed_length load,
      decimal_length distance,
      stops_length r,
    )

line_length : (p : Problem) (number : ℕ) (r : List ℕ) → length (line_of p number r) ≤ 64 + 21 * length r
line_length p number r = route_line_length number _ _ r

route_lines_length : (p : Problem) (number : ℕ) (plan : Plan) → length (route_lines p number plan) ≤ 64 * length plan + 21 * length (flat plan)
unfolding route_lines pieces flat
route_lines_length p number [] = omega arith
route_lines_length p number (r ∷ rs) =
    omega (
      arith,
      text_length (line_of p number r ∷ route_lines p (suc number) rs ∷ []),
      line_length p number r,
      route_lines_length p (suc number) rs,
      length-append r (flat rs),
    )

first_line_length : (n : ℕ) → length (first_line n) ≤ 28
unfolding first_line pieces
first_line_length n = omega (arith, text_length (bytes "routes " ∷ decimal n ∷ bytes "\n" ∷ []), decimal_length n)

last_line_length : (steps draws given left : ℕ) → length (last_line steps draws given left) ≤ 107
unfolding last_line pieces
last_line_length steps draws given left =
    omega (
      arith,
      text_length
          (bytes "steps "
          ∷ decimal steps
          ∷ bytes " draws "
          ∷ decimal draws
          ∷ bytes " given "
          ∷ decimal given
          ∷ bytes " left "
          ∷ decimal left
          ∷ bytes "\n"
          ∷ []),
      decimal_length steps,
      decimal_length draws,
      decimal_length given,
      decimal_length left,
    )

-- the listing of every problem and plan
pub listing_length : (p : Problem) (plan : Plan) (counts : Counts) (given : ℕ) → length (listing p plan counts given) ≤ 135 + 64 * length plan + 21 * length (flat plan)
unfolding listing pieces
listing_length p plan counts given =
    omega (
      arith,
      text_length (first_line (length plan) ∷ route_lines p 1 plan ∷ last_line counts.steps counts.draws given (length plan) ∷ []),
      first_line_length (length plan),
      route_lines_length p 1 plan,
      last_line_length counts.steps counts.draws given (length plan),
    )

-- of a sheet's plan: at most 64 routes and 64 stops in all
pub listing_fits : (p : Problem) (plan : Plan) (counts : Counts) (given : ℕ) → length plan ≤ 64 → length (flat plan) ≤ 64 → length (listing p plan counts given) ≤ 6000
listing_fits p plan counts given r s = omega (arith, listing_length p plan counts given)

pub refusal_fits : (n : ℕ) → length (refusal_line n) ≤ 6000
unfolding refusal_line pieces
refusal_fits n = omega (arith, text_length (bytes "refused " ∷ decimal n ∷ bytes "\n" ∷ []), decimal_length n)

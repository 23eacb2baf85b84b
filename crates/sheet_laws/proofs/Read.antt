-- What a sheet that was read holds: its distances are n × n whole numbers of at most nine digits, and it has at most 64 routes with 64 stops in all. `Gives P r` says that what was read, if anything,
-- has P; each form of the readers has one rule. Assumes nothing.
use Prim.Native.Nat.{ℕ, zero, suc, ◌+◌, ◌-◌, ◌*◌, ◌^◌, ◌≤◌, ◌<◌}
use mathlib.Core.Path.{◌≡◌, refl, ap, sym, ◌∙◌, subst}
use mathlib.Core.Bool.{Bool, true, false, cond, ◌&&◌}
use mathlib.Core.List.{List, [], ◌∷◌}
use native.Mathlib.Omega.{arith}
use native.Mathlib.Nat.{suc-mul, zero-mul, mul-one, mul_assoc, mul-le-mul_left, mul-le-mul_right, one-le-pow, pow-succ', lt_of_lt_of_le}
use borrow.Author.Tests.{leb-true}
use lib.Dec.{leb}
use lib.ListN.{length, length-append, length-map}
use Rattle.entry.specs.laws.All.{All, all_nil, all_cons, all_append}
use Rattle.entry.specs.laws.Searches.{and_second}
use Rattle.entry.specs.models.Problem.{Problem, DistanceMatrix}
use Rattle.entry.specs.plan.Plan.{Plan, flat}
use Rattle.sheet_format.specs.sheet_text.Text.{Reading, refused, got, next, Parser, bytes, space, lf, check, byte, word, before, is_digit, is_end, look, byte_at, digits, number, ending, repeat, line}
use Rattle.sheet_format.specs.sheet_headings.Heading.{heading}
use Rattle.sheet_format.specs.Form.{Sheet, vehicle, places, distances, times, roads, break, draws, route_line, route_lines, routes, stop_cell, slices_of, last_run, whole_problem, problem_of, sections, sheet}
use Rattle.sheet_laws.specs.Short.{Short}

-- ---- one rule for each form

-- what was read, if anything, has P
abbrev Gives : {A : Type 0} → (A → Type 0) → Reading A → Type 0
Gives P (refused n) = Unit
Gives P (got a at) = P a

gives_any : {A : Type 0} (r : Reading A) → Gives (λ a. Unit {0}) r
gives_any (refused n) = tt
gives_any (got a at) = tt

gives_next : {A B : Type 0} (P : A → Type 0) (Q : B → Type 0) (r : Reading A) (f : A → ℕ → Reading B) → Gives P r → ((a : A) (i : ℕ) → P a → Gives Q (f a i)) → Gives Q (next r f)
gives_next P Q (refused n) f h g = tt
gives_next P Q (got a at) f h g = g a at h

-- what follows has Q whatever comes before
gives_after : {A B : Type 0} (Q : B → Type 0) (r : Reading A) (f : A → ℕ → Reading B) → ((a : A) (i : ℕ) → Gives Q (f a i)) → Gives Q (next r f)
gives_after Q r f g = gives_next (λ a. Unit {0}) Q r f (gives_any r) (λ a i u. g a i)

gives_got : {A : Type 0} (P : A → Type 0) (r : Reading A) (a : A) (i : ℕ) → r ≡ got a i → Gives P r → P a
gives_got P r a i e h = subst (Gives P) e h

gives_more : {A : Type 0} (P Q : A → Type 0) (r : Reading A) → ((a : A) → P a → Q a) → Gives P r → Gives Q r
gives_more P Q (refused n) f h = tt
gives_more P Q (got a at) f h = f a h

gives_before : {A : Type 0} (P : A → Type 0) (b : ℕ) (p : Parser A) (s : List ℕ) (at : ℕ) → Gives P (p s at) → Gives P (before b p s at)
gives_before P b p s at h = gives_next P P (p s at) _ h (λ a i q. gives_after P (byte b s i) _ (λ u j. q))

-- what follows a check may rely on it
gives_check : {B : Type 0} (Q : B → Type 0) (b : Bool) (n : ℕ) (s : List ℕ) (at : ℕ) (f : Unit {0} → ℕ → Reading B) → (b ≡ true → (i : ℕ) → Gives Q (f tt i)) → Gives Q (next (check b n s at) f)
gives_check Q true n s at f g = g refl at
gives_check Q false n s at f g = tt

gives_repeat
    : {A : Type 0} (P : A → Type 0) (n : ℕ) (p : ℕ → Parser A) (s : List ℕ) (at : ℕ)
    → ((left i : ℕ) → Gives P (p left s i))
    → Gives (λ l. All P l × (length l ≡ n)) (repeat n p s at)
unfolding repeat
gives_repeat P zero p s at h = (all_nil, refl)
gives_repeat P (suc n) p s at h =
    gives_next P (λ l. All P l × (length l ≡ suc n)) (p n s at) _ (h n at)
    (λ a i q. gives_next (λ l. All P l × (length l ≡ n)) (λ l. All P l × (length l ≡ suc n)) (repeat n p s i) _ (gives_repeat P n p s i h)
    (λ l j m. (all_cons q m.0, ap suc m.1)))

-- ---- numbers

-- v itself, and with one digit more
stops_here : (v m : ℕ) → v < (v + 1) * 10 ^ m
stops_here v m =
    let ten : 0 < 10 = omega arith in
    let h = mul-le-mul_left (v + 1) (one-le-pow m 10 ten) in
    omega (arith, h, mul-one (v + 1))

goes_on : (v d k w : ℕ) → d < 10 → w < (v * 10 + d + 1) * 10 ^ k → w < (v + 1) * 10 ^ suc k
goes_on v d k w h l =
    let b : v * 10 + d + 1 ≤ (v + 1) * 10 = omega arith in
    let e : (v + 1) * 10 * 10 ^ k ≡ (v + 1) * 10 ^ suc k = mul_assoc (v + 1) 10 (10 ^ k) ∙ ap (λ (x : ℕ). (v + 1) * x) (sym (pow-succ' 10 k)) in
    lt_of_lt_of_le l (rw (← e) (mul-le-mul_right (10 ^ k) b))

digit_small : (b : ℕ) → is_digit b ≡ true → b - 48 < 10
digit_small b e = omega (arith, leb-true b 57 (and_second (leb 48 b) (leb b 57) e))

-- k more digits behind v
gives_digits : (k v : ℕ) (s : List ℕ) (at : ℕ) → Gives (λ w. w < (v + 1) * 10 ^ k) (digits k v s at)
unfolding digits
gives_digits zero v s at = stops_here v 0
gives_digits (suc k) v s at = go (is_digit (byte_at s at)) refl (gives_digits k (v * 10 + (byte_at s at - 48)) s (at + 1))
  where
    go
        : (t : Bool)
        → is_digit (byte_at s at) ≡ t
        → Gives (λ w. w < (v * 10 + (byte_at s at - 48) + 1) * 10 ^ k) (digits k (v * 10 + (byte_at s at - 48)) s (at + 1))
        → Gives (λ w. w < (v + 1) * 10 ^ suc k) (cond t (digits k (v * 10 + (byte_at s at - 48)) s (at + 1)) (got v at))
    go false e h = stops_here v (suc k)
    go true e h =
        gives_more (λ w. w < (v * 10 + (byte_at s at - 48) + 1) * 10 ^ k) (λ w. w < (v + 1) * 10 ^ suc k) (digits k (v * 10 + (byte_at s at - 48)) s (at + 1))
        (λ w. goes_on v (byte_at s at - 48) k w (digit_small (byte_at s at) e)) h

abbrev Nine : ℕ → Type 0
Nine v = v ≤ 999_999_999

nine_digits : (s : List ℕ) (at : ℕ) → Gives Nine (number s at)
unfolding number
nine_digits s at =
    gives_after Nine (look is_digit s at) _
    (λ u i. gives_next (λ w. w < (0 + 1) * 10 ^ 9) Nine (digits 9 0 s i) _ (gives_digits 9 0 s i)
    (λ v j h. gives_after Nine (look is_end s j) _ (λ u k. omega (arith, h))))

-- ---- rows

abbrev Row : ℕ → List ℕ → Type 0
Row k l = All Nine l × (length l ≡ k)

gives_line : (k : ℕ) (s : List ℕ) (at : ℕ) → Gives (Row k) (line k s at)
gives_line k s at =
    gives_repeat Nine k (λ left. before (ending left) number) s at (λ left i. gives_before Nine (ending left) number s i (nine_digits s i))

-- rows one behind the other
all_rows : (n k : ℕ) (rows : List (List ℕ)) → All (Row k) rows → length rows ≡ n → All Nine (flat rows) × (length (flat rows) ≡ n * k)
unfolding flat
all_rows n k [] a e = (all_nil, sym (ap (λ (m : ℕ). m * k) (sym e) ∙ zero-mul k))
all_rows n k (r ∷ rows) (all_cons h a) e =
    let b = all_rows (length rows) k rows a refl in
    let f : suc (length rows) * k ≡ n * k = ap (λ (m : ℕ). m * k) e in
    (all_append h.0 b.0, omega (arith, length-append r (flat rows), h.1, b.1, suc-mul (length rows) k, f))

gives_distances : (n : ℕ) (s : List ℕ) (at : ℕ) → Gives (λ rows. All (Row n) rows × (length rows ≡ n)) (distances n s at)
unfolding distances
gives_distances n s at =
    gives_after _ (heading (bytes "distances") n n 11 s at) _
    (λ m i. gives_repeat (Row n) n (λ left. line n) s i (λ left j. gives_line n s j))

abbrev ShortRoads : DistanceMatrix → Type 0
ShortRoads m = Short m.size m.distances

gives_roads : (n : ℕ) (s : List ℕ) (at : ℕ) → Gives ShortRoads (roads n s at)
unfolding roads
gives_roads n s at =
    gives_next (λ rows. All (Row n) rows × (length rows ≡ n)) ShortRoads (distances n s at) _ (gives_distances n s at)
    (λ rows i h. gives_after ShortRoads (times n s i) _
    (λ ts j. record { cells = flat rows; are = refl; size = (all_rows n n rows h.0 h.1).1; small = (all_rows n n rows h.0 h.1).0 }))

-- ---- routes

abbrev Upto : ℕ → ℕ → Type 0
Upto most n = n ≤ most

gives_heading : (name : List ℕ) (least most refusal : ℕ) (s : List ℕ) (at : ℕ) → Gives (Upto most) (heading name least most refusal s at)
unfolding heading
gives_heading name least most refusal s at =
    gives_after (Upto most) (word name s at) _
    (λ u i. gives_after (Upto most) (byte space s i) _
    (λ v j. gives_after (Upto most) (number s j) _
    (λ n k. gives_check (Upto most) (leb least n && leb n most) refusal s k _
    (λ e l. gives_after (Upto most) (byte lf s l) _ (λ w m. leb-true n most (and_second (leb least n) (leb n most) e))))))

gives_route : (room : ℕ) (s : List ℕ) (at : ℕ) → Gives (λ r. length r ≤ room) (route_line room s at)
unfolding route_line
gives_route room s at =
    gives_after (λ r. length r ≤ room) (number s at) _
    (λ k i. gives_check (λ r. length r ≤ room) (leb k room) 12 s i _
    (λ e j. gives_after (λ r. length r ≤ room) (byte (ending k) s j) _
    (λ u l. gives_more (Row k) (λ r. length r ≤ room) (line k s l) (λ r h. omega (arith, h.1, leb-true k room e)) (gives_line k s l))))

-- so many routes, with so many stops in all
abbrev Few : ℕ → ℕ → Plan → Type 0
Few n room plan = (length plan ≡ n) × (length (flat plan) ≤ room)

gives_routes : (n room : ℕ) (s : List ℕ) (at : ℕ) → Gives (Few n room) (route_lines n room s at)
unfolding route_lines flat
gives_routes zero room s at = (refl, omega arith)
gives_routes (suc n) room s at =
    gives_next (λ r. length r ≤ room) (Few (suc n) room) (route_line room s at) _ (gives_route room s at)
    (λ r i h. gives_next (Few n (room - length r)) (Few (suc n) room) (route_lines n (room - length r) s i) _ (gives_routes n (room - length r) s i)
    (λ rest j g. (ap suc g.0, omega (arith, length-append r (flat rest), h, g.1))))

gives_plan : (s : List ℕ) (at : ℕ) → Gives (λ plan. (length plan ≤ 64) × (length (flat plan) ≤ 64)) (routes s at)
unfolding routes
gives_plan s at =
    gives_next (Upto 64) (λ plan. (length plan ≤ 64) × (length (flat plan) ≤ 64)) (heading (bytes "routes") 0 64 12 s at) _
    (gives_heading (bytes "routes") 0 64 12 s at)
    (λ n i h. gives_more (Few n 64) (λ plan. (length plan ≤ 64) × (length (flat plan) ≤ 64)) (route_lines n 64 s i)
    (λ plan g. (omega (arith, g.0, h), g.1)) (gives_routes n 64 s i))

-- ---- the sheet

abbrev ShortProblem : Problem → Type 0
ShortProblem p = ShortRoads p.roads

gives_problem : (s : List ℕ) (at : ℕ) → Gives ShortProblem (whole_problem s at)
unfolding whole_problem problem_of
gives_problem s at =
    gives_after ShortProblem (vehicle s at) _
    (λ v i. gives_after ShortProblem (places s i) _
    (λ ps j. gives_next ShortRoads ShortProblem (roads (length ps) s j) _ (gives_roads (length ps) s j)
    (λ m k h. gives_after ShortProblem (break s k) _ (λ r l. h))))

-- of a sheet that was read
pub record Held (x : Sheet) : Type 0 where
  pub short : Short x.problem.roads.size x.problem.roads.distances
  pub few_routes : length x.plan.lengths ≤ 64
  pub few_stops : length x.plan.stops ≤ 64

gives_sections : (s : List ℕ) (at : ℕ) → Gives Held (sections s at)
unfolding sections slices_of
gives_sections s at =
    gives_next ShortProblem Held (whole_problem s at) _ (gives_problem s at)
    (λ p i h. gives_after Held (draws s i) _
    (λ tape j. gives_next (λ plan. (length plan ≤ 64) × (length (flat plan) ≤ 64)) Held (routes s j) _ (gives_plan s j)
    (λ plan k g. gives_after Held (last_run s k) _
    (λ r l. record { short = h; few_routes = omega (arith, g.0, length-map plan length); few_stops = omega (arith, g.1, length-map (flat plan) stop_cell) }))))

pub sheet_holds : (s : List ℕ) (at : ℕ) (x : Sheet) (e : ℕ) → sheet s at ≡ got x e → Held x
unfolding sheet
sheet_holds s at x e h =
    gives_got Held (sheet s at) x e h (gives_after Held (check (leb (length s) 60000) 10 s at) _ (λ u i. gives_sections s i))

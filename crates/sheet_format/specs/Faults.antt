-- Sheets that are refused by their form, each with its number: every sentence on the form, and of the readings of what it leaves open, by
-- computation. Assumes nothing.
use Rattle.std.specs.Prelude.{ℕ, ◌≤◌, ◌<◌, ◌≡◌, refl, List, [], ◌∷◌, ◌++◌, map, length}
use Prim.Native.String.{String}
use Rattle.std.proofs.Common.{le-leb}
use Rattle.std.proofs.lemmas.Bool.{lt-leb}
use Rattle.sheet_fields.specs.sheet_text.Text.{Reading, refused, got, bytes}
use Rattle.sheet_format.specs.Form.{Sheet, sheet, sections}
use Rattle.sheet_format.specs.Opened.{opened}

-- the number of the refusal, or 0
abbrev pub fault : Reading Sheet → ℕ
fault (refused n) = n
fault (got x at) = 0

-- a sheet's end, and what a sheet with this end is refused with
abbrev pub Case : Type 0
Case = String × ℕ

-- what the sheets that begin so and end as the cases do are refused with
unfoldable pub judged : String → List Case → List ℕ
unfolding opened
judged start cases = map (λ c. fault (sheet (bytes start ++ bytes c.0) 0)) cases

abbrev pub expected : List Case → List ℕ
expected cases = map (λ c. c.1) cases

-- row 10: "sheet over 60,000 bytes", whatever they hold
pub too_long : (s : List ℕ) (at : ℕ) → 60000 < length s → sheet s at ≡ refused 10
unfolding sheet
too_long s at h = rw (lt-leb (length s) 60000 h)

pub not_too_long : (s : List ℕ) (at : ℕ) → length s ≤ 60000 → sheet s at ≡ sections s at
unfolding sheet
not_too_long s at h = rw (le-leb (length s) 60000 h)

-- ---- the vehicle's section; where it passes, `places 0` is refused with 12

pub vehicles : List Case
vehicles =
    -- a file of no bytes
    ("", 11) ∷
    -- leading zeros, within nine digits in all, counts and depot included
    ("vehicle 000000001\n007 000 00 01 - -\nplaces 0\n", 12) ∷
    ("vehicle 0000000001\n", 11) ∷
    -- ten digits, whatever the value
    ("vehicle 1\n1000000000 0 0 1 - -\nplaces 0\n", 11) ∷
    ("vehicle 1\n0000000001 0 0 1 - -\nplaces 0\n", 11) ∷
    ("vehicle 1\n999999999 0 0 1 - -\nplaces 0\n", 12) ∷
    -- a minus sign before digits: the capacity may have one, with nine digits behind it; -0 is 0
    ("vehicle 1\n-7 0 0 1 - -\nplaces 0\n", 12) ∷
    ("vehicle 1\n-0 0 0 1 - -\nplaces 0\n", 12) ∷
    ("vehicle 1\n-999999999 0 0 1 - -\nplaces 0\n", 12) ∷
    ("vehicle 1\n-1000000000 0 0 1 - -\nplaces 0\n", 11) ∷
    ("vehicle 1\n--7 0 0 1 - -\nplaces 0\n", 11) ∷
    -- and nothing else in the line
    ("vehicle 1\n7 -0 0 1 - -\nplaces 0\n", 11) ∷
    ("vehicle 1\n7 0 -1 1 - -\nplaces 0\n", 11) ∷
    ("vehicle 1\n7 0 0 -1 - -\nplaces 0\n", 11) ∷
    ("vehicle 1\n7 0 0 1 -1 -\nplaces 0\n", 11) ∷
    ("vehicle 1\n7 0 0 1 - -1\nplaces 0\n", 11) ∷
    ("vehicle -1\n7 0 0 1 - -\nplaces 0\n", 11) ∷
    -- a lone - is for the limits alone
    ("vehicle 1\n7 0 0 1 5 -\nplaces 0\n", 12) ∷
    ("vehicle 1\n7 0 0 1 - 5\nplaces 0\n", 12) ∷
    ("vehicle 1\n- 0 0 1 - -\nplaces 0\n", 11) ∷
    ("vehicle 1\n7 - 0 1 - -\nplaces 0\n", 11) ∷
    ("vehicle 1\n7 0 - 1 - -\nplaces 0\n", 11) ∷
    ("vehicle 1\n7 0 0 - - -\nplaces 0\n", 11) ∷
    ("vehicle -\n7 0 0 1 - -\nplaces 0\n", 11) ∷
    -- the depot is place 0
    ("vehicle 1\n7 1 0 1 - -\nplaces 0\n", 11) ∷
    -- any other count is 11, however large
    ("vehicle 0\n", 11) ∷
    ("vehicle 2\n", 11) ∷
    ("vehicle 999999999\n", 11) ∷
    -- one space between tokens, none at a line's start or end; no blank line, CR, tab or other byte
    ("vehicle 1\n7  0 0 1 - -\nplaces 0\n", 11) ∷
    ("vehicle  1\n7 0 0 1 - -\nplaces 0\n", 11) ∷
    (" vehicle 1\n7 0 0 1 - -\nplaces 0\n", 11) ∷
    ("vehicle 1 \n7 0 0 1 - -\nplaces 0\n", 11) ∷
    ("vehicle 1\n7 0 0 1 - - \nplaces 0\n", 11) ∷
    ("vehicle 1\n\n7 0 0 1 - -\nplaces 0\n", 11) ∷
    ("vehicle 1\r\n7 0 0 1 - -\nplaces 0\n", 11) ∷
    ("vehicle 1\n7\t0 0 1 - -\nplaces 0\n", 11) ∷
    ("vehicle 1\n7 0 0 1 - +\nplaces 0\n", 11) ∷
    ("vehicle 1\n7 0 0 1 -\n- \nplaces 0\n", 11) ∷
    ("Vehicle 1\n7 0 0 1 - -\nplaces 0\n", 11) ∷
    []

pub vehicles_judged : judged "" vehicles ≡ expected vehicles
unfolding judged vehicles
vehicles_judged = refl

-- ---- the count of places, their windows, and the order of sections

pub place_lines : List Case
place_lines =
    -- row 12 is judged when the count's token ends, before what follows is looked at
    ("places 65\n", 12) ∷
    ("places 65 ", 12) ∷
    ("places 65", 12) ∷
    ("places 0\n", 12) ∷
    ("places 0", 12) ∷
    ("places 999999999", 12) ∷
    -- no number, no count: another byte, a NUL among them, or ten digits
    ("places 65x", 11) ∷
    ("places 65\r", 11) ∷
    ("places 65\0", 11) ∷
    ("places 0000000065\n", 11) ∷
    ("places -65\n", 11) ∷
    ("places", 11) ∷
    ("places ", 11) ∷
    ("places 64 ", 11) ∷
    ("places 64", 11) ∷
    -- both of READY and DUE or neither
    ("places 1\n0 0 5 - -\n", 11) ∷
    ("places 1\n0 0 - 5 -\n", 11) ∷
    -- sections in their order
    ("distances 1\n0\n", 11) ∷
    ("times 0\n", 11) ∷
    []

pub place_lines_judged : judged "vehicle 1\n7 0 0 1 - -\n" place_lines ≡ expected place_lines
unfolding judged place_lines
place_lines_judged = refl

-- ---- places, with the sections up to `draws 1025` behind them, which is refused with 12

pub place_fields : List Case
place_fields =
    -- what a place's line may hold
    ("places 1\n0 0 - - -\ndistances 1\n0\ntimes 0\nbreak 0\ndraws 1025\n", 12) ∷
    ("places 1\n-5 0 1 2 3\ndistances 1\n0\ntimes 0\nbreak 0\ndraws 1025\n", 12) ∷
    ("places 1\n-0 00 - - 0\ndistances 1\n0\ntimes 0\nbreak 0\ndraws 1025\n", 12) ∷
    ("places 1\n5 0 - - 7\ndistances 1\n0\ntimes 0\nbreak 0\ndraws 1025\n", 12) ∷
    -- and what not
    ("places 1\n- 0 - - -\ndistances 1\n0\ntimes 0\nbreak 0\ndraws 1025\n", 11) ∷
    ("places 1\n0 - - - -\ndistances 1\n0\ntimes 0\nbreak 0\ndraws 1025\n", 11) ∷
    ("places 1\n0 -1 - - -\ndistances 1\n0\ntimes 0\nbreak 0\ndraws 1025\n", 11) ∷
    ("places 1\n0 0 -1 2 -\ndistances 1\n0\ntimes 0\nbreak 0\ndraws 1025\n", 11) ∷
    ("places 1\n0 0 1 -2 -\ndistances 1\n0\ntimes 0\nbreak 0\ndraws 1025\n", 11) ∷
    ("places 1\n0 0 - - -1\ndistances 1\n0\ntimes 0\nbreak 0\ndraws 1025\n", 11) ∷
    ("places 1\n0 0 - -\ndistances 1\n0\ntimes 0\nbreak 0\ndraws 1025\n", 11) ∷
    ("places 1\n0 0 - - - -\ndistances 1\n0\ntimes 0\nbreak 0\ndraws 1025\n", 11) ∷
    []

pub place_fields_judged : judged "vehicle 1\n7 0 0 1 - -\n" place_fields ≡ expected place_fields
unfolding judged place_fields
place_fields_judged = refl

-- ---- distances, times and break, with `draws 1025` behind them

pub roads : List Case
roads =
    -- distances as places, times 0 or as places, break 0 or 1
    ("distances 1\n5\ntimes 1\n7\nbreak 1\n1 2 3\ndraws 1025", 12) ∷
    ("distances 65\n", 11) ∷
    ("distances 0\n", 11) ∷
    ("distances 2\n0 0\n0 0\n", 11) ∷
    ("distances 1\n5\ntimes 2\n", 11) ∷
    ("distances 1\n5\ntimes 0\nbreak 2\n", 11) ∷
    -- as many numbers as places in a line, and no more lines
    ("distances 1\n5 5\ntimes 0\nbreak 0\ndraws 1025", 11) ∷
    ("distances 1\n5\n5\ntimes 0\nbreak 0\ndraws 1025", 11) ∷
    ("distances 1\n\ntimes 0\nbreak 0\ndraws 1025", 11) ∷
    -- no minus sign and no lone -
    ("distances 1\n-5\ntimes 0\nbreak 0\ndraws 1025", 11) ∷
    ("distances 1\n-\ntimes 0\nbreak 0\ndraws 1025", 11) ∷
    ("distances 1\n5\ntimes 1\n-\nbreak 0\ndraws 1025", 11) ∷
    ("distances 1\n5\ntimes 0\nbreak 1\n1 - 3\ndraws 1025", 11) ∷
    ("distances 1\n5\ntimes 0\nbreak 1\n1 -2 3\ndraws 1025", 11) ∷
    []

pub roads_judged : judged "vehicle 1\n7 0 0 1 - -\nplaces 1\n0 0 - - -\n" roads ≡ expected roads
unfolding judged roads
roads_judged = refl

-- ---- draws and routes

pub plans : List Case
plans =
    -- draws over 1,024, routes over 64, stops over 64 in all, as soon as the count or length is read
    ("draws 1025", 12) ∷
    ("draws 1024\n", 11) ∷
    ("draws 0\nroutes 65", 12) ∷
    ("draws 0\nroutes 64", 11) ∷
    ("draws 0\nroutes 1\n65", 12) ∷
    ("draws 0\nroutes 1\n65 x", 12) ∷
    ("draws 0\nroutes 1\n65x", 11) ∷
    ("draws 0\nroutes 1\n64 x", 11) ∷
    ("draws 0\nroutes 3\n0\n2 70000 999999999\n63 ", 12) ∷
    ("draws 0\nroutes 3\n0\n2 70000 999999999\n62 ", 11) ∷
    -- an empty route's line is 0 and LF; a length counts its line's stops
    ("draws 0\nroutes 1\n0 \nrun 1\n5 5\n", 11) ∷
    ("draws 0\nroutes 1\n2 1\nrun 1\n5 5\n", 11) ∷
    ("draws 0\nroutes 1\n1 1 2\nrun 1\n5 5\n", 11) ∷
    ("draws 0\nroutes 1\n\nrun 1\n5 5\n", 11) ∷
    -- no minus sign and no lone -
    ("draws 1\n-7\n", 11) ∷
    ("draws 1\n-\n", 11) ∷
    ("draws 1\n7 7\n", 11) ∷
    ("draws 0\nroutes 1\n-1 1\nrun 1\n5 5\n", 11) ∷
    ("draws 0\nroutes 1\n1 -1\nrun 1\n5 5\n", 11) ∷
    ("draws 0\nroutes 1\n1 -\nrun 1\n5 5\n", 11) ∷
    -- what the form lets pass, for rows 6, 7 and 8 to judge: a stop over N − 1, no draws, M over 65,535. (0: not refused)
    ("draws 0\nroutes 0\nrun 1\n5 5\n", 0) ∷
    ("draws 0\nroutes 2\n0\n2 70000 999999999\nrun 1\n999999999 999999999\n", 0) ∷
    []

pub plans_judged : judged "vehicle 1\n7 0 0 1 - -\nplaces 1\n0 0 - - -\ndistances 1\n0\ntimes 0\nbreak 0\n" plans ≡ expected plans
unfolding judged plans
plans_judged = refl

-- ---- run, and the end

pub ends : List Case
ends =
    -- nothing follows
    ("routes 1\n0\nrun 1\n5 5\n", 0) ∷
    ("routes 1\n0\nrun 1\n5 5", 11) ∷
    ("routes 1\n0\nrun 1\n5 5\n\n", 11) ∷
    ("routes 1\n0\nrun 1\n5 5\n ", 11) ∷
    ("routes 1\n0\nrun 1\n5 5\nrun 1\n5 5\n", 11) ∷
    ("routes 1\n0\nrun 1\n5 5\n\0", 11) ∷
    ("routes 1\n0\n", 11) ∷
    -- M and K
    ("routes 1\n0\nrun 0\n", 11) ∷
    ("routes 1\n0\nrun 2\n5 5\n5 5\n", 11) ∷
    ("routes 1\n0\nrun 1\n5\n", 11) ∷
    ("routes 1\n0\nrun 1\n-5 5\n", 11) ∷
    ("routes 1\n0\nrun 1\n5 -5\n", 11) ∷
    ("routes 1\n0\nrun 1\n- 5\n", 11) ∷
    ("routes 1\n0\nrun 1\n5 -\n", 11) ∷
    ("routes 1\n0\nrun 1\n5 5 5\n", 11) ∷
    ("routes 1\n0\nrun 1\n0000000005 5\n", 11) ∷
    []

pub ends_judged : judged "vehicle 1\n7 0 0 1 - -\nplaces 1\n0 0 - - -\ndistances 1\n0\ntimes 0\nbreak 0\ndraws 1\n7\n" ends ≡ expected ends
unfolding judged ends
ends_judged = refl

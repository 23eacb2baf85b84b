-- The definitions computed on small plans. Assumes nothing.
use Rattle.std.specs.Prelude.{◌≡◌, [], ◌∷◌, refl}
use Rattle.cell_exchange.specs.laws.Edits.{insert_at, erase}
use Rattle.cell_exchange.specs.laws.Keeps.{keep}
use Rattle.cell_exchange.specs.laws.Counts.{count, one_if}
use Rattle.plan.specs.Plan.{Plan, split, flat, lengths_of, padded, put_in, take_out, exchange_stops, exchange_tails, non_empty, drop_empty, occurs}

-- three routes, the second of them empty
abbrev three : Plan
three = (5 ∷ 6 ∷ []) ∷ [] ∷ (7 ∷ 8 ∷ 9 ∷ []) ∷ []

split_three : split (2 ∷ 0 ∷ 3 ∷ []) (5 ∷ 6 ∷ 7 ∷ 8 ∷ 9 ∷ []) ≡ three
unfolding split
split_three = refl

-- cells behind the stops in use are free
split_free : split (2 ∷ 0 ∷ 3 ∷ []) (5 ∷ 6 ∷ 7 ∷ 8 ∷ 9 ∷ 1 ∷ 2 ∷ []) ≡ three
unfolding split
split_free = refl

put_in_three : flat (put_in 2 1 4 three) ≡ 5 ∷ 6 ∷ 7 ∷ 4 ∷ 8 ∷ 9 ∷ []
unfolding flat put_in insert_at
put_in_three = refl

take_out_three : take_out 2 0 three ≡ (5 ∷ 6 ∷ []) ∷ [] ∷ (8 ∷ 9 ∷ []) ∷ []
unfolding take_out erase
take_out_three = refl

exchange_stops_three : exchange_stops 2 1 0 0 three ≡ (8 ∷ 6 ∷ []) ∷ [] ∷ (7 ∷ 5 ∷ 9 ∷ []) ∷ []
unfolding exchange_stops
exchange_stops_three = refl

exchange_tails_three : exchange_tails 0 1 2 1 three ≡ (5 ∷ 8 ∷ 9 ∷ []) ∷ [] ∷ (7 ∷ 6 ∷ []) ∷ []
unfolding exchange_tails
exchange_tails_three = refl

-- at i = j = 0 two whole routes change places
exchange_tails_whole : exchange_tails 0 0 2 0 three ≡ (7 ∷ 8 ∷ 9 ∷ []) ∷ [] ∷ (5 ∷ 6 ∷ []) ∷ []
unfolding exchange_tails
exchange_tails_whole = refl

-- case 12: lengths 0, 1, 1 become 1, 1, 0
padded_three : padded 3 (lengths_of (drop_empty (split (0 ∷ 1 ∷ 1 ∷ []) (1 ∷ 2 ∷ [])))) ≡ 1 ∷ 1 ∷ 0 ∷ []
unfolding padded split keep non_empty
padded_three = refl

occurs_three : occurs 8 three ≡ 1
unfolding count one_if flat
occurs_three = refl

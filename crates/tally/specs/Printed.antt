-- What a tally prints. Assumes nothing.
use Rattle.std.specs.Prelude.{ℕ, List, [], ◌∷◌, ◌++◌, codes, decimal, get_or}
use Rattle.stored_values.specs.declared.kinds.Kind.{Kind}
use Rattle.stored_values.specs.Kinds.{kinds, number_of, name_of}
use Rattle.tally.specs.declared.Tally.{Tally}

-- the line of a kind
abbrev pub kind_line : Tally → Kind → List ℕ
kind_line t kind =
    name_of kind ++ codes ": " ++ decimal (get_or t.asked.by_kind (number_of kind) 0) ++ codes " calls, " ++ decimal (get_or t.agreed.by_kind (number_of kind) 0) ++ codes " agree\n"

-- the lines of kinds
unfoldable pub kind_lines : Tally → List Kind → List ℕ
kind_lines t [] = []
kind_lines t (k ∷ ks) = kind_line t k ++ kind_lines t ks

-- the line of the sum
abbrev pub sum_line : Tally → List ℕ
sum_line t = decimal t.asked.all ++ (codes " calls replayed, " ++ (decimal t.agreed.all ++ codes " agree\n"))

-- a line for each kind, the sum last
abbrev pub printed : Tally → List ℕ
printed t = kind_lines t kinds ++ sum_line t

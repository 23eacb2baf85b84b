-- The numbers of document 01's refusal table ("returned"). Assumes nothing.
use Rattle.std.specs.Prelude.{ℕ}
use Rattle.refusal.specs.declared.Refusal.{Refusal}
use Rattle.refusal.specs.declared.Refusal.TheVariants.{Sizes, Values, Windows, Depot, Lengths, Stops, Tape, StepLimit, WorkCells, SheetLength, SheetForm, SheetSizes}

abbrev pub number : Refusal → ℕ
number Sizes = 1
number Values = 2
number Windows = 3
number Depot = 4
number Lengths = 5
number Stops = 6
number Tape = 7
number StepLimit = 8
number WorkCells = 9
number SheetLength = 10
number SheetForm = 11
number SheetSizes = 12

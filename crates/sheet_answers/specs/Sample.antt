-- What some sheets print, by computation from the definitions. Assumes nothing.
use Rattle.std.specs.Prelude.{◌≡◌, refl}
use Rattle.sheet_laws.specs.sheet_text.Text.{bytes}
use Rattle.sheet_laws.specs.sheet_format.Sample.{sample}
use Rattle.sheet_laws.specs.sheet_format.Opened.{opened as form}
use Rattle.sheet_laws.specs.listing.Listing.{opened as lines}
use Rattle.planner.specs.Opened.{opened as calls}
use Rattle.sheet_answers.specs.Printed.{eliminated, planned, printed}

-- Every definition, for a theorem that is computed: `unfolding opened`.
unfoldable pub opened : Unit {0}
unfolding form lines calls eliminated planned printed
opened = tt

-- document 01's sheet
sample_prints : printed sample ≡ bytes "routes 1\n1 9 25 1 2\nsteps 2 draws 0 given 2 left 1\n"
unfolding opened sample
sample_prints = refl

-- no bytes are no sheet
nothing_prints : printed (bytes "") ≡ bytes "refused 11\n"
unfolding opened
nothing_prints = refl

-- an empty tape: row 7, and nothing else is wrong with the sheet
no_draws_print
    : printed (bytes "vehicle 1\n10 0 0 1 - -\nplaces 1\n0 0 - - -\ndistances 1\n0\ntimes 0\nbreak 0\ndraws 0\nroutes 0\nrun 1\n5 5\n")
    ≡ bytes "refused 7\n"
unfolding opened
no_draws_print = refl

-- no routes
no_routes_print
    : printed (bytes "vehicle 1\n10 0 0 1 - -\nplaces 1\n0 0 - - -\ndistances 1\n0\ntimes 0\nbreak 0\ndraws 1\n7\nroutes 0\nrun 1\n5 5\n")
    ≡ bytes "routes 0\nsteps 0 draws 0 given 0 left 0\n"
unfolding opened
no_routes_print = refl

-- Every definition of the form, opened at once. Assumes nothing.
use Rattle.plan.specs.Plan.{flat}
use Rattle.sheet_fields.specs.sheet_text.Text.{byte, word, digits, number, signed, optional, repeat}
use Rattle.sheet_headings.specs.Heading.{heading}
use Rattle.sheet_format.specs.Form.{optional_float_before, vehicle_line, vehicle, window, place, places, distances, times, roads, rest_line, break, draws, route_line, route_lines, routes, run_line, run, problem_of, slices_of, whole_problem, last_run, sections, sheet}

-- Every definition, for a theorem that is computed: `unfolding opened`.
unfoldable pub opened : Unit {0}
unfolding flat byte word digits number signed optional repeat heading optional_float_before vehicle_line vehicle window place places distances times roads rest_line break draws route_line route_lines routes run_line run problem_of slices_of whole_problem last_run sections sheet
opened = tt

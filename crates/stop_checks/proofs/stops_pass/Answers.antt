-- `stops_pass` meets its contract: what the check does not find alone.
use Rattle.std.proofs.Common.{rules, ◌≡◌, ◌∙◌}
use Rattle.std.specs.Iterator.Adapters.{enumerate_steps}
use Rattle.std.proofs.lemmas.Fn.{fronts}
use Rattle.length_checks.specs.models.Lent.{of_problem}
use Rattle.length_checks.specs.entry.Table.{stops_pass}
use Rattle.stop_checks.proofs.RunLaws.{serves, ends, Marked, marked_start, marked_more, asks_place, asks_marks, one_failed, all_passed}
use Rattle.stop_checks.proofs.stops_pass.Goals as goal

pub all-requires-clause-callable : goal.all-requires-clause-callable
all-requires-clause-callable c =
    serves _ (λ s p. Marked c.args.stops.now c.args.problem.now s.count s.iter.rest.now p.0.now p.1.now p.2.now)
    (λ s p x t q m g r. marked_more m g.0 g.1 g.2 (search rules) (search rules) (search rules) (search (rules, r)))
    (marked_start c.enumerate.ensures.count (search rules))
    (λ t q x u m e. search (rules, asks_place, asks_marks))

pub returns : goal.returns
returns c =
    let end = ends {X = c.all.result ≡ stops_pass (of_problem c.args.problem.now) c.args.stops.now} (enumerate_steps fronts) _ _
    (λ s p. Marked c.args.stops.now c.args.problem.now s.count s.iter.rest.now p.0.now p.1.now p.2.now) c.all.result c.all.ensures.ran in
    end
    (λ s p x t q m g r. marked_more m g.0 g.1 g.2 (search rules) (search rules) (search rules) (search (rules, r)))
    (marked_start c.enumerate.ensures.count (search rules))
    (λ t q m e v. v ∙ all_passed m e.0.0)
    (λ t q x h u m e v k. v ∙ one_failed m e.0 e.1 (search rules))

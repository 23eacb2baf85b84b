-- `none_outranks` meets its contract: what the check does not find alone.
use Prim.Native.Nat.{ℕ, suc}
use mathlib.Core.Bool.{not}
use Rattle.std.proofs.Common.{rules, tests, ◌∙◌, length}
use Rattle.std.proofs.Math.Nat.{sub-zero}
use Rattle.std.proofs.lemmas.Iterator.{YieldsList-from_range}
use Rattle.std.proofs.lemmas.Iterator.Search.{all_from_yields_List}
use Rattle.ejection.specs.route_cost.Route.{insertion_cost}
use Rattle.ejection.specs.Eject.{outranks}
use Rattle.ejection_positions.specs.Pass.{none_outranks}
use Rattle.ejection.specs.laws.Searches.{range_every}
use Rattle.ejection_positions.proofs.none_outranks.Goals as goal

pub returns : goal.returns
unfolding none_outranks
returns c =
    let t = λ (q : ℕ). not (outranks c.args.failed (insertion_cost c.args.fleet.now.net.roads c.args.fleet.now.vehicle.depot_id c.args.kept.now q c.args.c) c.args.best) in
    let n = suc (length c.args.kept.now) in
    all_from_yields_List t _ _ _ c.all.ensures.ran (YieldsList-from_range 0 n n (search rules) (sub-zero n)) (λ x b q k. search (rules, tests)) ∙ range_every t n 0

-- `empty_pool` meets its contract: what the check does not find alone.
use Rattle.pool_emptying.proofs.StartLaws.{ones_running, ones_emptied}
use Rattle.pool_emptying.proofs.empty_pool.Goals as goal

pub empty_into-requires : goal.empty_into-requires
empty_into-requires c = ones_running c.args.given.now.instance.now.admitted.fit.square.few c.requires c.size.ensures

pub returns : goal.returns
returns c = record {
  plan = ones_emptied c.args.given.now.instance.now.admitted.fit.square.few c.requires c.size.ensures _ c.empty_into.ensures.plan;
  kept = c.empty_into.ensures.kept;
}

-- `exchange_tails` meets its contract: what the check does not find alone.
use Rattle.route_exchange.proofs.ExchangeLaws.{exchange_tails_turned}
use Rattle.route_exchange.proofs.exchange_tails.Goals as goal

pub returns : goal.returns
returns c = search exchange_tails_turned

-- `eject` meets its contract: what the check does not find alone.
use borrow.Author.Rules.{rules}
use Rattle.ejection_search.proofs.SearchLaws.{eject_both}
use Rattle.ejection_search.proofs.eject.Goals as goal

pub returns : goal.returns
returns c = eject_both _ _ _ _ _ _ _ c.eject_some-one.ensures (λ h. search (rules, h)) c.or_else.ensures

use borrow.Author.Rules.{rules}
use Rattle.calls.proofs.OrderLaws.{called_without}
use Rattle.kindlesap_c.proofs.kindlesap_prepare.Goals as goal

pub returns : goal.returns
returns c = called_without _ _ _ _ _ c.prepare-r.result (search rules) (search rules)

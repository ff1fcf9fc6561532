use borrow.Author.Rules.{rules}
use Rattle.calls.proofs.OrderLaws.{called_without}
use Rattle.kindlesap_c.proofs.kindlesap_read_back.Goals as goal

pub returns : goal.returns
returns c = called_without _ _ _ _ _ c.read_back-r.result (search rules) (search rules)

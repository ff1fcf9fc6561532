use Rattle.kindlesap.proofs.prepare.Goals as goal

pub returns : goal.returns
returns c = rw c.into.ensures c.prepare_checked.ensures

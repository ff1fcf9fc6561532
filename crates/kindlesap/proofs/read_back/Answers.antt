use Rattle.kindlesap.proofs.read_back.Goals as goal

pub returns : goal.returns
returns c = rw c.into.ensures c.read_back_checked.ensures

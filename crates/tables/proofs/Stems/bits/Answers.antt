use Rattle.std.proofs.Common.{rules, arith}
use Rattle.tables.specs.Writing.{stem_last, stem_on, stem_done}
use Rattle.tables.proofs.Stems.bits.Goals as goal

pub returns-then-x-self : goal.returns-then-x-self
returns-then-x-self c = stem_last _ _ _ _ _ _ _ (omega arith) (search rules) (omega arith) c.loop-k.invariant.1

pub loop-k-preserved : goal.loop-k-preserved
loop-k-preserved c = (search rules, stem_on _ _ _ _ _ _ _ _ _ (omega arith) (search rules) (omega arith) c.next-x.ensures.is c.loop-k.invariant.1)

pub returns : goal.returns
returns c = stem_done _ _ _ _ _ _ _ (omega arith) c.loop-k.invariant.1

use Rattle.std.proofs.Common.{rules, arith}
use Rattle.tables.specs.Writing.{shared_here, shared_on, shared_done}
use Rattle.tables.proofs.Stems.shared.Goals as goal

pub returns-then-in_mask-clause-is : goal.returns-then-in_mask-clause-is
returns-then-in_mask-clause-is c = shared_here _ _ _ _ _ _ _ _ (omega arith) c.in_mask.ensures c.if-in_mask.true c.loop-k.invariant.1

pub loop-k-preserved : goal.loop-k-preserved
loop-k-preserved c = (search rules, shared_on _ _ _ _ _ _ _ _ _ _ (omega arith) c.in_mask.ensures c.if-in_mask.false c.next-x.ensures.is c.loop-k.invariant.1)

pub returns-clause-is : goal.returns-clause-is
returns-clause-is c = shared_done _ _ _ _ _ _ _ (omega arith) c.loop-k.invariant.1

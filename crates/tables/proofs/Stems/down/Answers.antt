use Rattle.tables.specs.Writing.{implying, down_on}
use Rattle.std.proofs.Common.{arith, rules}
use Rattle.tables.proofs.Stems.down.Goals as goal

pub returns-then-x-first-clause-is : goal.returns-then-x-first-clause-is
returns-then-x-first-clause-is c = search (implying, rules)

pub returns-clause-is : goal.returns-clause-is
returns-clause-is c = down_on _ _ _ _ _ _ _ _ _ c.step_at-x.ensures.is (search rules) (omega arith) c.byte_at.ensures.0

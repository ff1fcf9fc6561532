use Rattle.std.proofs.Common.{rules}
use Rattle.tables.specs.Writing.{pointing}
use Rattle.tables.proofs.Stems.point.Goals as goal

pub returns-then-a-eq0-clause-is : goal.returns-then-a-eq0-clause-is
returns-then-a-eq0-clause-is c = search (pointing, rules)

pub returns-then-has-2-clause-is : goal.returns-then-has-2-clause-is
returns-then-has-2-clause-is c = search (pointing, rules)

pub returns-then-has-clause-is : goal.returns-then-has-clause-is
returns-then-has-clause-is c = search (pointing, rules)

pub returns-clause-is : goal.returns-clause-is
returns-clause-is c = search (pointing, rules)

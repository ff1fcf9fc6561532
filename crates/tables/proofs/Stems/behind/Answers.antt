use Rattle.std.proofs.Common.{rules}
use Rattle.tables.specs.Writing.{pointing}
use Rattle.tables.proofs.Stems.behind.Goals as goal

pub returns-then-has-clause-is : goal.returns-then-has-clause-is
returns-then-has-clause-is c = search (pointing, rules)

pub returns-else-has-clause-is : goal.returns-else-has-clause-is
returns-else-has-clause-is c = search (pointing, rules)

pub returns-else-self-m-eq1-clause-is : goal.returns-else-self-m-eq1-clause-is
returns-else-self-m-eq1-clause-is c = search (pointing, rules)

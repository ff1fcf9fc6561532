use Rattle.base.specs.Filled.{Filled}
use Rattle.grammar.specs.Rows.{symbol_at}
use Rattle.plain.proofs.push.Given as goal

abbrev pub invariant-loop-i : goal.invariant-loop-i
invariant-loop-i l = Filled (symbol_at l.rows l.j) l.at l.i l.initial.stack l.stack

use Rattle.std.proofs.Common.{◌≡◌, ◌-◌, ◌<◌}
use Rattle.grammar.specs.Rows.{symbol_space}
use Rattle.tables.specs.Cells.{stem_bits}
use Rattle.tables.proofs.Stems.bits.Given as goal

abbrev pub invariant-loop-k : goal.invariant-loop-k
invariant-loop-k l = (l.x < symbol_space) × (stem_bits l.self.steps.now l.self.shape.t l.a symbol_space l.from 0 ≡ stem_bits l.self.steps.now l.self.shape.t l.a (symbol_space - l._k) l.x l.acc)

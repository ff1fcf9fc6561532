use Rattle.std.proofs.Common.{◌≡◌, ◌-◌, ◌<◌}
use Rattle.grammar.specs.Rows.{symbol_space}
use Rattle.tables.specs.Cells.{shared_from}
use Rattle.tables.proofs.Stems.shared.Given as goal

abbrev pub invariant-loop-k : goal.invariant-loop-k
invariant-loop-k l = (l.x < symbol_space) × (shared_from l.self.steps.now l.self.shape.t l.a l.mask symbol_space l.from ≡ shared_from l.self.steps.now l.self.shape.t l.a l.mask (symbol_space - l._k) l.x)

use Rattle.std.proofs.Common.{◌+◌}
use Rattle.tables.specs.Cells.{entry_of}
use Rattle.tables.specs.Writing.{Broken}
use Rattle.tables.proofs.Stems.write_breaks.Given as goal

abbrev pub invariant-loop-r : goal.invariant-loop-r
invariant-loop-r l = Broken (entry_of l.self.sets.now l.self.steps.now l.masks l.self.shape.t) l.self.shape.n (l.self.shape.t + 1) l.r l.w

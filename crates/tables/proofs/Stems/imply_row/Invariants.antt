use Rattle.tables.specs.Live.{Dotted}
use Rattle.tables.specs.Cells.{implied_of}
use Rattle.tables.proofs.Stems.imply_row.Given as goal

abbrev pub invariant-loop-x : goal.invariant-loop-x
invariant-loop-x l = Dotted (implied_of l.self.sets.now l.self.steps.now l.self.shape.t l.w l.r) l.live l.x-index l.initial.row l.row

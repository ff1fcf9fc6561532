use Rattle.std.proofs.Common.{◌+◌}
use Rattle.tables.specs.Cells.{implied_of}
use Rattle.tables.specs.Live.{Quiet}
use Rattle.tables.specs.Checking.{Blank, Held}
use Rattle.tables.proofs.Stems.holds_breaks.Given as goal

abbrev pub invariant-loop-r : goal.invariant-loop-r
invariant-loop-r l = record {
  quiet : Quiet l.self.steps.now l.self.shape.n (l.self.shape.t + 1) l.row;
  blank : Blank l.self.shape.n (l.self.shape.t + 1) l.row;
  held : Held (implied_of l.self.sets.now l.self.steps.now l.self.shape.t l.w) l.self.shape.n (l.self.shape.t + 1) l.r l.w;
}

-- The cells before the loop's place are written, for each f that gives what the closure gives.
use Rattle.std.proofs.Common.{◌≡◌, ℕ, ◌+◌, ◌*◌, ◌<◌}
use Rattle.grammar.specs.Limits.{columns}
use Rattle.tables.specs.Grid.{Grid}
use Rattle.tables.proofs.Shape.fill.Given as goal

abbrev pub invariant-loop-a : goal.invariant-loop-a
invariant-loop-a g l = (d : g.row.T.Denot) (f : ℕ → g.row.T.Denot) → ((i : ℕ) (v : g.row.T.Denot) → i < l.self.n * columns → goal.F-post g l.cell i v → v ≡ f i) → Grid d f (l.self.t + 1) l.self.n l.q l.a l.fn.w l.w

abbrev pub invariant-loop-q : goal.invariant-loop-q
invariant-loop-q g l = (d : g.row.T.Denot) (f : ℕ → g.row.T.Denot) → ((i : ℕ) (v : g.row.T.Denot) → i < l.self.n * columns → goal.F-post g l.cell i v → v ≡ f i) → Grid d f (l.self.t + 1) l.self.n l.q 0 l.fn.w l.w

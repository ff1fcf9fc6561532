use Rattle.std.proofs.Common.{◌≡◌, ◌+◌, arith}
use Rattle.tables.specs.Grid.{grid_cell, grid_row}
use Rattle.tables.proofs.Shape.fill.Goals as goal

pub loop-a-preserved : goal.loop-a-preserved
loop-a-preserved g c = λ d f h. grid_cell d f _ _ _ _ _ _ _ (omega arith) (omega arith) (omega arith) (omega arith) (h _ _ (omega arith) c.cell.ensures) (c.loop-a.invariant d f h)

pub loop-q-preserved : goal.loop-q-preserved
loop-q-preserved g c = λ d f h. let e : c.loop-a.a ≡ c.args.self.t + 1 = omega arith in grid_row d f _ _ _ _ _ (rw e at (c.loop-a.invariant d f h))

pub returns : goal.returns
returns g c = λ d f h. let e : c.loop-q.q ≡ c.args.self.n = omega arith in rw e at (c.loop-q.invariant d f h)

use Rattle.std.proofs.Common.{◌+◌}
use Rattle.tables.specs.Live.{Live}
use Rattle.tables.proofs.Stems.list_live.Given as goal

abbrev pub invariant-loop-q : goal.invariant-loop-q
invariant-loop-q l = Live l.self.steps.now l.self.shape.n (l.self.shape.t + 1) l.q 0 l.live l.k

abbrev pub invariant-loop-a : goal.invariant-loop-a
invariant-loop-a l = Live l.self.steps.now l.self.shape.n (l.self.shape.t + 1) l.q l.a l.live l.k

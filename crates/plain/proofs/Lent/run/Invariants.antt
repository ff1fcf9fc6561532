use Rattle.std.proofs.Common.{◌-◌}
use Rattle.plain.specs.Lending.{AtPlace}
use Rattle.plain.proofs.Lent.run.Given as goal

abbrev pub invariant-loop-at : goal.invariant-loop-at
invariant-loop-at l = AtPlace l.self l.nodes l.stack l.at

abbrev pub decreases-loop-at : goal.decreases-loop-at
decreases-loop-at l = l.self.slots - l.at.nodes

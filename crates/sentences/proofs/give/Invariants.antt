use Rattle.sentences.specs.Leaves.{Giving}
use Rattle.std.proofs.Common.{◌≤◌}
use Rattle.sentences.proofs.give.Given as goal

abbrev pub invariant-loop-node : goal.invariant-loop-node
invariant-loop-node l = (l.token ≤ l.end) × Giving l.nodes l.n l.from l.initial.text l.at l.node l.token l.text

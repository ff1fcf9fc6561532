use Rattle.sentences.specs.Leaves.{Skipped}
use Rattle.sentences.proofs.skip.Given as goal

abbrev pub invariant-loop-i : goal.invariant-loop-i
invariant-loop-i l = Skipped l.nodes l.n l.from l.k l.i l.left

use Rattle.std.proofs.Common.{rules, arith}
use Rattle.sentences.specs.Leaves.{skipped_inner, skipped_leaf, skipped_end}
use Rattle.sentences.proofs.skip.Goals as goal
use Rattle.sentences.proofs.skip.Goals.{then-node_in-eq0, else-node_in-eq0}

pub loop-i-preserved : goal.loop-i-preserved
loop-i-preserved c =
    elim c.if-node_in-eq0.branch [
      | then-node_in-eq0 w ↦ rw w.left-is (skipped_leaf _ _ _ _ _ _ c.loop-i.invariant _ (search rules) c.node_in.ensures (search rules) (search rules))
      | else-node_in-eq0 w ↦ rw w.left-is (skipped_inner _ _ _ _ _ _ c.loop-i.invariant _ (search rules) c.node_in.ensures (search rules))
    ]

pub returns : goal.returns
returns c = (skipped_end _ _ _ _ _ _ c.loop-i.invariant (omega arith), search rules)

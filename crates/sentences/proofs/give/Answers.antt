use Rattle.std.proofs.Common.{rules, arith}
use Rattle.sentences.specs.Leaves.{giving_inner, giving_leaf, gave_end}
use Rattle.sentences.proofs.give.Goals as goal
use Rattle.sentences.proofs.give.Goals.{then-leaf-eq0, else-leaf-eq0}

pub loop-node-preserved : goal.loop-node-preserved
loop-node-preserved c =
    elim c.if-leaf-eq0.branch [
      | then-leaf-eq0 w ↦ rw (w.text-is, w.token-is) (omega arith, giving_leaf _ _ _ _ _ _ _ _ c.loop-node.invariant.1 _ _ (search rules) c.node_in-leaf.ensures (search rules) (search rules) (omega arith) w.put_token.ensures)
      | else-leaf-eq0 w ↦ rw (w.text-is, w.token-is) (search rules, giving_inner _ _ _ _ _ _ _ _ c.loop-node.invariant.1 _ (search rules) c.node_in-leaf.ensures (search rules))
    ]

pub returns : goal.returns
returns c = (gave_end _ _ _ _ _ _ _ _ c.loop-node.invariant.1 _ (omega arith) (search rules), search rules, search rules)

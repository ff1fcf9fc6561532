use Rattle.std.proofs.Common.{length-set, arith}
use Rattle.base.specs.Blocks.{copy_turn, copying}
use Rattle.std.proofs.Math.Seq.{paste-zero}
use borrow.Author.Rules.{rules}
use Rattle.base.proofs.copy.Goals as goal

pub loop-i-init : goal.loop-i-init
loop-i-init c = search (paste-zero, rules)

pub loop-i-preserved : goal.loop-i-preserved
loop-i-preserved c = (simp length-set c.loop-i.invariant.0, copy_turn _ _ _ _ c.min-n.result _ (search rules) (omega (arith, c.min-n.ensures)) (omega (arith, c.min-n.ensures)) (search rules) c.loop-i.invariant.1)

pub returns-after-loop-i : goal.returns-after-loop-i
returns-after-loop-i c = search (copying, rules)

pub returns-else-at-dst : goal.returns-else-at-dst
returns-else-at-dst c = search (copying, rules)

use Rattle.plain.specs.Machine.{start_small, going_start, at_end}
use Rattle.plain.proofs.Rest.{going_rest}
use Rattle.std.proofs.Common.{rules, arith}
use Rattle.plain.proofs.Lent.run.Goals as goal

pub overflow_cast-stack : goal.overflow_cast-stack
overflow_cast-stack c = let h = start_small c.requires.ground in search rules

pub loop-at-init : goal.loop-at-init
loop-at-init c = going_start c.requires.ground _ _ c.requires.some (omega arith)

pub returns-then-at-self : goal.returns-then-at-self
returns-then-at-self c = at_end c.requires.ground c.loop-at-test.false c.loop-at.invariant.at c.if-at-self.true

pub returns-else-at-self : goal.returns-else-at-self
returns-else-at-self c = going_rest c.requires.ground c.loop-at-test.false c.loop-at.invariant c.if-at-self.false

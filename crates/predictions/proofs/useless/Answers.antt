use Rattle.std.proofs.Common.{arith}
use Rattle.predictions.specs.Idle.{busy_next, idle_none}
use Rattle.predictions.proofs.useless.Goals as goal

pub returns-else-sets-x-ne3 : goal.returns-else-sets-x-ne3
returns-else-sets-x-ne3 c = idle_none _ _ _ _ (omega arith) (busy_next _ _ _ (omega arith) c.if-sets-x-ne3.false c.loop-x.invariant.busy)

use Rattle.std.proofs.Common.{◌+◌, ◌-◌, ◌≤◌}
use Rattle.predictions.specs.Idle.{BusyTo}
use Rattle.predictions.proofs.useless.Given as goal

abbrev pub invariant-loop-x : goal.invariant-loop-x
invariant-loop-x l = record { near : l.x ≤ l.fn.head.t + l.fn.head.n + 1; busy : BusyTo l.sets l.fn.head.t (l.x - 1) }

use Rattle.std.proofs.Common.{◌≡◌, ◌+◌, ◌-◌, ◌≤◌}
use Rattle.sets.specs.Words.{tokens}
use Rattle.sets.proofs.begin.Given as goal

abbrev pub invariant-loop-a : goal.invariant-loop-a
invariant-loop-a l = record { near : l.a ≤ l.t + 1; done : l.sets ≡ tokens (l.a - 1) l.initial.sets }

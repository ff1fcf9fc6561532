use Rattle.std.proofs.Common.{◌≡◌, ◌-◌}
use Rattle.base.specs.Bytes.{number}
use Rattle.base.proofs.number.Given as goal

abbrev pub invariant-loop-i : goal.invariant-loop-i
invariant-loop-i g l = l.n ≡ number (g.row.N - l.i) l.b l.i

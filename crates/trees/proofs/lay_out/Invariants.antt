use Rattle.std.proofs.Common.{◌+◌, ◌-◌, ◌≤◌}
use Rattle.trees.specs.Coded.{nodes_from, arity_in}
use Rattle.trees.specs.Laying.{Laid, Counted}
use Rattle.trees.proofs.lay_out.Given as goal

abbrev pub invariant-loop-i : goal.invariant-loop-i
invariant-loop-i l = (l.tokens + l.i ≤ l.n) × Counted (arity_in l.rows) (nodes_from l.nodes (l.n - l.i) l.i) l.tokens × Laid l.slots (arity_in l.rows) (nodes_from l.nodes (l.n - l.i) l.i) l.head l.area

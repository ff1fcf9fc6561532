use Rattle.std.proofs.Common.{◌+◌, ◌≤◌}
use Rattle.notes.specs.Lists.{nodes_of, matches_of, marks_of, Seen}
use Rattle.keeping.specs.Filling.{Giving}
use Rattle.keeping.proofs.give_all.Given as goal

abbrev pub invariant-loop-i : goal.invariant-loop-i
invariant-loop-i l = record {
  low : l.s ≤ l.fn.notes.slots + 1 + l.i;
  seen : Seen l.fn.notes l.notes (nodes_of l.notes) (matches_of l.fn.notes) (marks_of l.fn.notes);
  giving : Giving (nodes_of l.fn.notes) (matches_of l.fn.notes) l.fn.notes.slots l.k (nodes_of l.notes) l.i l.s;
}

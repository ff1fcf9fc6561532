use Rattle.std.proofs.Common.{◌≤◌}
use Rattle.notes.specs.Lists.{nodes_of, starts_of}
use Rattle.matching.specs.Finding.{Started}
use Rattle.matching.specs.Noted.{Starts}
use Rattle.matching.proofs.mark_starts.Given as goal

abbrev pub invariant-loop-i : goal.invariant-loop-i
invariant-loop-i l = record {
  few : l.t ≤ l.i;
  started : Started (nodes_of l.fn.notes) l.i l.t (starts_of l.notes);
  viewed : Starts l.fn.notes l.notes;
}

use Rattle.notes.specs.Lists.{nodes_of, matches_of, marks_of, Seen}
use Rattle.keeping.specs.Marking.{Marks, Keeps}
use Rattle.keeping.proofs.hold_all.Given as goal

abbrev pub invariant-loop-i : goal.invariant-loop-i
invariant-loop-i l = record {
  seen : Seen l.fn.notes l.notes (nodes_of l.fn.notes) (matches_of l.fn.notes) (marks_of l.notes);
  marks : Marks (nodes_of l.fn.notes) (matches_of l.fn.notes) l.i (marks_of l.notes);
  keeps : Keeps (nodes_of l.fn.notes) (matches_of l.fn.notes) l.i l.kept;
}

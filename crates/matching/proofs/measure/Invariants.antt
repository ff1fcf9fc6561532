use Rattle.notes.specs.Lists.{nodes_of, ends_of, widths_of}
use Rattle.matching.specs.Measure.{tree_in, Gauged}
use Rattle.matching.specs.Noted.{Spans}
use Rattle.matching.proofs.measure.Given as goal

abbrev pub invariant-loop-i : goal.invariant-loop-i
invariant-loop-i l = record {
  gauged : Gauged (tree_in l.rows (nodes_of l.fn.notes) l.n l.base) l.base l.i (ends_of l.fn.notes) (widths_of l.fn.notes) (ends_of l.notes) (widths_of l.notes);
  viewed : Spans l.fn.notes l.notes;
}

use Rattle.std.proofs.Common.{◌+◌}
use Rattle.notes.specs.Lists.{matches_of}
use Rattle.matching.specs.Carrying.{InRow}
use Rattle.matching.specs.Noted.{Entries}
use Rattle.matching.proofs.carry.Given as goal

abbrev pub invariant-loop-y : goal.invariant-loop-y
invariant-loop-y l = record {
  row : InRow (matches_of l.fn.notes) l.i l.y (l.j + 1) (matches_of l.notes);
  viewed : Entries l.fn.notes l.notes;
}

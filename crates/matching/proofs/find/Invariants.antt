use Rattle.notes.specs.Lists.{nodes_of, widths_of}
use Rattle.matching.specs.Finding.{Sought}
use Rattle.matching.proofs.find.Given as goal

abbrev pub invariant-loop-j : goal.invariant-loop-j
invariant-loop-j l = Sought (nodes_of l.notes) (widths_of l.notes) l.lo l.j l.x

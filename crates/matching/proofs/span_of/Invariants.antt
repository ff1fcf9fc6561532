use Rattle.notes.specs.Lists.{nodes_of}
use Rattle.matching.specs.Measure.{Hop}
use Rattle.matching.proofs.span_of.Given as goal

abbrev pub invariant-loop-m : goal.invariant-loop-m
invariant-loop-m l = Hop l.rows (nodes_of l.notes) l.n l.base l.i l.k l._m l.end l.width

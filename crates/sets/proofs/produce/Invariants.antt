use Rattle.grammar.specs.Rows.{symbol_space, left_at, length_at}
use Rattle.std.proofs.Common.{◌≡◌, ◌≤◌, ◌<◌}
use Rattle.sets.specs.Sweeps.{Grew, At}
use Rattle.sets.proofs.produce.Given as goal

abbrev pub invariant-loop-j : goal.invariant-loop-j
invariant-loop-j l =
    record {
      left : l.m ≡ left_at l.rows l.p;
      small : l.m < symbol_space;
      within : l.j ≤ length_at l.rows l.p;
      at : At l.rows l.p l.m l.j l.initial.sets l.sets l.tail l.made;
      grew : Grew l.initial.sets l.sets l.grew;
    }

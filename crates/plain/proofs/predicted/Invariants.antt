use Rattle.plain.specs.Machine.{LitTo}
use Rattle.plain.proofs.predicted.Given as goal

abbrev pub invariant-loop-c : goal.invariant-loop-c
invariant-loop-c l = LitTo l.tables l.row l.c l.e

use Rattle.std.proofs.Common.{◌≤◌}
use Rattle.grammar.specs.Rows.{length_at}
use Rattle.predictions.specs.Hits.{WordAt}
use Rattle.predictions.proofs.body_word.Given as goal

abbrev pub invariant-loop-j : goal.invariant-loop-j
invariant-loop-j l = record { within : l.j ≤ length_at l.rows l.p; word : WordAt l.rows l.sets l.p l.j l.tail }

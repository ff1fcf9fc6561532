use Rattle.grammar.specs.Rows.{length_at}
use Rattle.walks.specs.Digits.{Tail}
use Rattle.walks.proofs.words.word_of.Given as goal

abbrev pub invariant-loop-j : goal.invariant-loop-j
invariant-loop-j l = Tail l.rows l.q (length_at l.rows l.q) l.j l.v

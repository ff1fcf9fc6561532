use Rattle.walks.specs.Words.{word_count, Worded}
use Rattle.std.proofs.Common.{◌≡◌, length}
use Rattle.walks.proofs.words.fill_words.Given as goal

abbrev pub invariant-loop-q : goal.invariant-loop-q
invariant-loop-q l = (length l.words ≡ word_count) × Worded l.rows l.q l.words

use Rattle.std.proofs.Common.{rules}
use Rattle.walks.specs.Words.{worded_none}
use Rattle.walks.proofs.words.fill_words.Goals as goal

pub loop-q-init : goal.loop-q-init
loop-q-init c = (search rules, worded_none _ _ _ c.requires)

use Rattle.std.proofs.Common.{arith}
use borrow.Author.Rules.{rules}
use Rattle.grammar.specs.Rows.{zeros_filled}
use Rattle.sets.specs.Rounds.{known_from}
use Rattle.sets.proofs.analyse.Goals as goal

pub begin-requires : goal.begin-requires
begin-requires c = (zeros_filled _ _ _ (c.fill.ensures.after (λ y e. e)) (omega arith), search rules, search rules)

pub returns : goal.returns
returns c = known_from _ _ _ _ (search rules) (search rules) c.begin.ensures c.settle.ensures

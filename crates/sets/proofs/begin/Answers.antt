use Rattle.std.proofs.Common.{arith}
use borrow.Author.Rules.{rules}
use Rattle.sets.specs.Sweeps.{tokens_more, begin_all}
use Rattle.sets.proofs.begin.Goals as goal

pub returns-2 : goal.returns-2
returns-2 c =
    begin_all _ _ _ _ _ _ _ (omega arith) c.requires.0 c.raise.ensures.0 c.raise-2.ensures.0
    (tokens_more _ _ _ _ _ (search rules) (search rules) c.loop-a.invariant.done c.raise-in-loop-a.ensures.0 c.raise-in-loop-a-2.ensures.0)

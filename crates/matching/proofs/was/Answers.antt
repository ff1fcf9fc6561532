use Rattle.matching.specs.Finding.{was_before, was_after}
use borrow.Author.Rules.{rules}
use Rattle.matching.proofs.was.Goals as goal

pub returns-then-t-change : goal.returns-then-t-change
returns-then-t-change c = was_before _ _ _ _ c.if-t-change.true

pub returns : goal.returns
returns c = was_after _ _ _ _ (search rules)

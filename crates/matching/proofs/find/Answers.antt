use Rattle.matching.specs.Finding.{found_none, found_some}
use borrow.Author.Rules.{rules}
use Rattle.matching.proofs.find.Goals as goal

pub returns-then-width_of-ne0 : goal.returns-then-width_of-ne0
returns-then-width_of-ne0 c = found_some _ _ _ _ _ _ _ _ (search rules) (search rules) c.symbol_of.ensures.0 (search rules) c.width_of.ensures.0 (search rules)

pub returns : goal.returns
returns c = found_none _ _ _ _ _ _ c.loop-j.invariant (search rules)

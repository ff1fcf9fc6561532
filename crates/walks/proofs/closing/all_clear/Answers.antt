use Rattle.walks.specs.Closing.{clear_run}
use borrow.Author.Rules.{rules}
use Rattle.walks.proofs.closing.all_clear.Goals as goal

pub loop-s-preserved : goal.loop-s-preserved
loop-s-preserved c = let h = c.in-Some.ensures in (search rules, search rules, search rules, search rules, search rules, clear_run _ c.in-Some.ensures.1 c.loop-s.invariant.5)

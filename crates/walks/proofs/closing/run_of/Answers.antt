use Rattle.walks.specs.Closing.{run_zero, run_one}
use borrow.Author.Rules.{rules}
use Rattle.walks.proofs.closing.run_of.Goals as goal

pub returns-then-all_zero : goal.returns-then-all_zero
returns-then-all_zero c = (search rules, run_zero _ _ _ _ (search rules) (c.all_zero.ensures.yes (search rules)) (search rules))

pub returns : goal.returns
returns c = rw c.then_some.ensures (run_one _ _ _ _ _ (search rules) c.clear.ensures)

use borrow.Author.Rules.{rules}
use Rattle.editing.specs.Editing.{finds_none, short, walk_found}
use Rattle.editing.proofs.old_tree.Goals as goal

pub returns-then-is_tree : goal.returns-then-is_tree
returns-then-is_tree c = short _ (search rules) (c.is_tree.ensures.yes (search rules)) (search rules)

pub returns-then-work-need : goal.returns-then-work-need
returns-then-work-need c = finds_none (c.is_tree.ensures.no (search rules))

pub returns : goal.returns
returns c = rw c.ok_or.ensures.value (walk_found _ c.read_tree.ensures (search rules) (search rules))

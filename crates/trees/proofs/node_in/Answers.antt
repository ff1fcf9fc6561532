use Rattle.trees.specs.Coded.{node_at}
use borrow.Author.Rules.{rules}
use Rattle.trees.proofs.node_in.Goals as goal

pub returns : goal.returns
unfolding node_at
returns c = search rules

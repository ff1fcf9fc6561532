use Rattle.base.specs.Bytes.{le_bytes}
use Rattle.trees.specs.Coded.{node_bytes}
use borrow.Author.Rules.{rules}
use Rattle.trees.proofs.node_bytes.Goals as goal

pub returns : goal.returns
unfolding node_bytes le_bytes
returns c = search rules

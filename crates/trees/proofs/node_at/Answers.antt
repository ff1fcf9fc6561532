use Rattle.std.proofs.Common.{◌≡◌}
use Rattle.trees.specs.Listing.{node_of, node_out}
use Rattle.trees.specs.Coded.{node_at}
use borrow.Author.Rules.{rules}
use Rattle.trees.proofs.node_at.Goals as goal

pub returns-then-nodes-i : goal.returns-then-nodes-i
returns-then-nodes-i c = let d : c.default.result ≡ node_of 0 0 0 0 = search rules in rw d (node_out _ _ (search rules))

pub returns : goal.returns
unfolding node_at
returns c = search rules

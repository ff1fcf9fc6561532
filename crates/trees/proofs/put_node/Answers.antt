use Rattle.trees.specs.Listing.{put_filled}
use borrow.Author.Rules.{rules}
use Rattle.trees.proofs.put_node.Goals as goal

pub returns : goal.returns
returns c = put_filled _ _ _ _ _ c.node_bytes.ensures (search rules) (search rules) c.put_bytes.ensures

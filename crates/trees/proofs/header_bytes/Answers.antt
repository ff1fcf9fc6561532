use Rattle.base.specs.Bytes.{le_bytes}
use Rattle.base.specs.Blocks.{zeros}
use Rattle.trees.specs.Area.{header_bytes}
use borrow.Author.Rules.{rules}
use Rattle.trees.proofs.header_bytes.Goals as goal

pub returns : goal.returns
unfolding header_bytes le_bytes zeros
returns c = search rules

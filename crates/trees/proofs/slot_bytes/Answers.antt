use Rattle.base.specs.Bytes.{le_bytes}
use Rattle.base.specs.Blocks.{zeros}
use Rattle.trees.specs.Area.{slot_bytes}
use borrow.Author.Rules.{rules}
use Rattle.trees.proofs.slot_bytes.Goals as goal

pub returns : goal.returns
unfolding slot_bytes le_bytes zeros
returns c = search rules

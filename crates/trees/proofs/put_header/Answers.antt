use Rattle.trees.specs.Slots.{slotted_bytes, length_header}
use borrow.Author.Rules.{rules}
use Rattle.trees.proofs.put_header.Goals as goal

pub returns : goal.returns
returns c = slotted_bytes _ _ _ _ 0 (search rules) c.header_bytes.ensures (length_header _ _ _) c.put_bytes.ensures

use Rattle.trees.specs.Slots.{slotted_bytes, length_slot_bytes}
use borrow.Author.Rules.{rules}
use Rattle.trees.proofs.put_slot.Goals as goal

pub returns : goal.returns
returns c = slotted_bytes _ _ _ _ _ (search rules) c.slot_bytes.ensures (length_slot_bytes _ _ _ _ _ _) (rw c.from.ensures at c.put_bytes.ensures)

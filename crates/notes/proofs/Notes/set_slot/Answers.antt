use Rattle.std.specs.Prelude.{refl}
use Rattle.notes.specs.Views.{slot_set}
use Rattle.notes.specs.Lists.{seen}
use borrow.Author.Rules.{rules}
use Rattle.notes.proofs.Notes.set_slot.Goals as goal

pub returns : goal.returns
returns c = let h = slot_set _ _ (search rules) _ _ _ (search rules) c.set_slot.ensures in (h.0, seen record { name = refl; slots = refl } h.1)

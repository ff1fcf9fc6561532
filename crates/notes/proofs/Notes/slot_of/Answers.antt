use Rattle.notes.specs.Views.{field_is}
use Rattle.trees.specs.Nodes.{Node}
use borrow.Author.Rules.{rules}
use Rattle.notes.proofs.Notes.slot_of.Goals as goal

pub returns : goal.returns
returns c = (field_is _ _ _ _ (λ (u : Node). u.slot) c.requires c.slot_of.ensures.0, search rules)

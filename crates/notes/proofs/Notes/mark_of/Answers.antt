use Rattle.notes.specs.Views.{mark_is}
use borrow.Author.Rules.{rules}
use Rattle.notes.proofs.Notes.mark_of.Goals as goal

pub returns : goal.returns
returns c = (mark_is _ _ _ _ _ c.marks_at.ensures c.requires c.from.ensures, search rules)

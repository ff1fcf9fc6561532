use Rattle.notes.specs.Views.{number_is}
use borrow.Author.Rules.{rules}
use Rattle.notes.proofs.Notes.end_of.Goals as goal

pub returns : goal.returns
returns c = (number_is _ _ _ _ _ _ (search rules) c.number.ensures.0, search rules)

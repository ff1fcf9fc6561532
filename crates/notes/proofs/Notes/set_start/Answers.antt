use Rattle.notes.specs.Views.{start_set}
use Rattle.notes.specs.Lists.{viewed}
use borrow.Author.Rules.{rules}
use Rattle.notes.proofs.Notes.set_start.Goals as goal

pub returns : goal.returns
returns c = viewed c.set_number.ensures.0 (search (start_set, rules))

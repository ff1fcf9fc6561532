use Rattle.std.specs.Prelude.{refl}
use Rattle.notes.specs.Views.{mark_set}
use Rattle.notes.specs.Lists.{seen}
use borrow.Author.Rules.{rules}
use Rattle.notes.proofs.Notes.set_mark.Goals as goal

pub returns : goal.returns
returns c = seen record { name = refl; slots = refl } (search (mark_set, rules))

use Rattle.notes.specs.Views.{match_set}
use Rattle.notes.specs.Lists.{viewed}
use Rattle.std.specs.Prelude.{refl}
use borrow.Author.Rules.{rules}
use Rattle.notes.proofs.Notes.set_match.Goals as goal

pub returns : goal.returns
returns c = viewed c.set_number.ensures.0 (match_set _ _ (search rules) _ _ _ refl _ c.requires.0 (rw (← c.entry.ensures) c.set_number.ensures.1))

use Rattle.notes.specs.Views.{notes_cleared}
use Rattle.notes.specs.Lists.{viewed}
use Rattle.std.specs.Prelude.{refl}
use Rattle.base.specs.Blocks.{zeros}
use borrow.Author.Rules.{rules}
use Rattle.notes.proofs.Notes.clear.Goals as goal

pub returns : goal.returns
unfolding zeros
returns c = viewed record { name = refl; slots = refl } (notes_cleared _ _ (search rules) _ _ _ c.note_at-from.ensures c.marks_at-to.ensures (c.fill.ensures.after (λ y e. e)))

use Rattle.notes.specs.Views.{marks_cleared}
use Rattle.notes.specs.Lists.{seen}
use Rattle.std.specs.Prelude.{refl}
use Rattle.base.specs.Blocks.{zeros}
use borrow.Author.Rules.{rules}
use Rattle.notes.proofs.Notes.clear_marks.Goals as goal

pub returns : goal.returns
unfolding zeros
returns c = seen record { name = refl; slots = refl } (marks_cleared _ _ (search rules) _ _ _ c.marks_at-from.ensures refl (c.fill.ensures.after (λ y e. e)))

use Rattle.notes.specs.Lists.{spans_set}
use borrow.Author.Rules.{rules}
use Rattle.notes.proofs.Notes.set_span.Goals as goal

pub returns : goal.returns
returns c = spans_set _ c.set_number.new.self _ _ _ _ (search rules) (search rules) c.set_number.ensures.0 c.set_number.ensures.1 c.set_number-2.ensures.0 c.set_number-2.ensures.1

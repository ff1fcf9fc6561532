use Rattle.std.proofs.Common.{◌∙◌}
use Rattle.notes.specs.Views.{number_is}
use borrow.Author.Rules.{rules}
use Rattle.notes.proofs.Notes.match_of.Goals as goal

pub returns : goal.returns
returns c = let e = number_is _ _ _ _ _ _ c.requires c.number.ensures.0 in (c.old_node.ensures ∙ e, search rules)

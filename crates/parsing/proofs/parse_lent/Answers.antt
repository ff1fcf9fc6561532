use Rattle.std.proofs.Common.{refl, ◌∙◌, rules}
use Rattle.base.specs.Blocks.{copied_whole}
use Rattle.parsing.specs.Front.{ground_front, ran_front}
use Rattle.parsing.proofs.parse_lent.Goals as goal

pub parse-requires : goal.parse-requires
parse-requires c =
    (ground_front c.requires.0 _ _ c.min-r.ensures _ _ c.split_at_mut-text.result.1.now c.split_at_mut-rest.ensures.front_len (c.copy.ensures ∙ copied_whole _ _ _ (search rules) refl (search rules)), search rules, search rules, search rules)

pub returns : goal.returns
returns c =
    ran_front c.requires.0 _ _ c.min-r.ensures _ _ c.split_at_mut-text.result.1.now c.split_at_mut-rest.ensures.front_len (c.copy.ensures ∙ copied_whole _ _ _ (search rules) refl (search rules)) _ _ c.requires.1 c.parse.ensures

use Rattle.std.proofs.Common.{rules, ◌∙◌}
use Rattle.base.specs.Written.{put16_copied}
use Rattle.base.proofs.put_two.Goals as goal

pub returns : goal.returns
returns c = c.put.ensures ∙ put16_copied _ _ _ (search rules)

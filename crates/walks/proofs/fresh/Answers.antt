use Rattle.std.proofs.Common.{rules, refl}
use Rattle.walks.specs.Stacked.{marks_fresh}
use Rattle.base.specs.Blocks.{zeros}
use Rattle.walks.proofs.fresh.Goals as goal

pub returns : goal.returns
unfolding zeros
returns c = marks_fresh _ _ _ _ _ _ c.marks_at-from.ensures (search rules) (c.fill.ensures.after (λ y e. e)) refl refl

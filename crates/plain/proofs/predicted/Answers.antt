use Rattle.std.proofs.Common.{◌∙◌, rules}
use Rattle.plain.specs.Machine.{marked_not, marked_in, lit_none, lit_more}
use Rattle.plain.proofs.predicted.Goals as goal
use Rattle.plain.proofs.predicted.Goals.{then-byte_at-ne0, else-byte_at-ne0}

pub loop-c-init : goal.loop-c-init
loop-c-init c = lit_none _ _

pub loop-c-preserved : goal.loop-c-preserved
loop-c-preserved c =
    lit_more _ _ _ _ _ _
    (elim c.if-byte_at-ne0.branch [ then-byte_at-ne0 w ↦ w.e-is ∙ marked_in _ _ _ c.loop-c-test.true (search rules) | else-byte_at-ne0 w ↦ w.e-is ∙ marked_not _ _ _ (search rules) ])
    c.byte_at.ensures.0
    c.loop-c.invariant

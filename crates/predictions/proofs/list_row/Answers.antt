use Rattle.std.proofs.Common.{◌∙◌, sym, arith}
use Rattle.predictions.specs.Listing.{marked_yes, marked_no}
use Rattle.predictions.proofs.list_row.Goals as goal
use Rattle.predictions.proofs.list_row.Goals.{then-has, else-has}

pub loop-a-preserved : goal.loop-a-preserved
loop-a-preserved c =
    elim c.if-has.branch [
      | then-has w ↦ rw (w.cells-is, w.crowded-is) (marked_yes _ _ _ _ _ _ _ c.loop-a.invariant (omega arith) (sym c.has.ensures ∙ w.if-has.true))
      | else-has w ↦ rw (w.cells-is, w.crowded-is) (marked_no _ _ _ _ _ _ _ c.loop-a.invariant (sym c.has.ensures ∙ w.if-has.false))
    ]

use Rattle.std.proofs.Common.{◌≡◌, Some, unwrap_or, min}
use borrow.Author.Rules.{rules}
use Rattle.predictions.specs.Listing.{listed_none, listed_quiet, listed_loud}
use Rattle.predictions.proofs.predict.Goals as goal
use Rattle.predictions.proofs.predict.Goals.{then-list_row, else-list_row}

pub loop-p-init : goal.loop-p-init
loop-p-init c = listed_none _ _ _ _ c.requires.0

pub loop-p-preserved : goal.loop-p-preserved
loop-p-preserved c =
    let h = c.requires.3 _ c.loop-p-test.true in
    elim c.if-list_row.branch [
      | then-list_row w ↦ let e : c.if-list_row.low ≡ Some (min (unwrap_or c.loop-p.low c.left_at-m.result) c.left_at-m.result) = cc in rw e (listed_loud _ _ _ _ _ _ _ _ _ _ c.left_at-m.ensures.0 c.predictors-w.ensures (search rules) (search rules) c.loop-p.invariant c.list_row.ensures w.if-list_row.true)
      | else-list_row w ↦ rw w.low-is (listed_quiet _ _ _ _ _ _ _ _ _ _ c.left_at-m.ensures.0 c.predictors-w.ensures (search rules) (search rules) c.loop-p.invariant c.list_row.ensures w.if-list_row.false)
    ]

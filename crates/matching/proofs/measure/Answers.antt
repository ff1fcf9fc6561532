use Rattle.notes.specs.Views.{length_field}
use Rattle.matching.specs.Measure.{gauge_start, gauge_more}
use Rattle.matching.specs.Noted.{viewed_all, spanned_out, spans_on}
use borrow.Author.Rules.{rules}
use Rattle.matching.proofs.measure.Goals as goal

pub loop-i-init : goal.loop-i-init
loop-i-init c = record { gauged = gauge_start _ _ _ _ _ _; viewed = viewed_all _ }

pub loop-i-preserved : goal.loop-i-preserved
loop-i-preserved c =
    let u = c.loop-i.invariant in
    record {
      gauged = gauge_more _ _ u.gauged c.loop-i-test.true (rw length_field (search rules)) (rw length_field (search rules)) (spanned_out u.viewed _ _ c.span_of-span.ensures.0) c.set_span.ensures.ends c.set_span.ensures.widths;
      viewed = spans_on u.viewed c.set_span.ensures;
    }

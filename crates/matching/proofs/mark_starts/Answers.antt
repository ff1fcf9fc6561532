use Rattle.notes.specs.Views.{length_field}
use Rattle.matching.specs.Finding.{started_leaf}
use Rattle.matching.specs.Noted.{production_out, starts_on}
use borrow.Author.Rules.{rules}
use Rattle.matching.proofs.mark_starts.Goals as goal

pub loop-i-preserved : goal.loop-i-preserved
loop-i-preserved c =
    let u = c.loop-i.invariant in
    record {
      few = search rules;
      started = started_leaf _ _ _ _ _ _ (production_out u.viewed _ _ c.production_of.ensures.0) (search rules) (rw length_field (search rules)) c.set_start.ensures.starts u.started;
      viewed = starts_on u.viewed c.set_start.ensures;
    }

use Rattle.matching.specs.Handing.{handed_new, handed_old, handed_both}
use Rattle.matching.specs.Noted.{viewed_all, matches_on}
use Rattle.matching.proofs.hand.Goals as goal
use Rattle.matching.proofs.hand.Goals.{then-width_of-ne0-via-then-width_of-ne0, then-width_of-ne0-via-else-width_of-ne0+then-width_of-ne0-2}

pub returns-then-width_of-ne0 : goal.returns-then-width_of-ne0
returns-then-width_of-ne0 c =
    elim c.then-width_of-ne0.branch [
      | then-width_of-ne0-via-then-width_of-ne0 w ↦ (handed_new _ _ _ _ _ _ c.width_of.ensures.0 w.if-width_of-ne0.true, viewed_all _)
      | then-width_of-ne0-via-else-width_of-ne0+then-width_of-ne0-2 w ↦ (handed_old _ _ _ _ _ _ w.width_of-else-width_of-ne0.ensures.0 w.if-width_of-ne0-2.true, viewed_all _)
    ]

pub returns : goal.returns
returns c = (handed_both _ _ _ _ _ _ _ _ c.width_of.ensures.0 c.if-width_of-ne0.false c.width_of-else-width_of-ne0.ensures.0 c.if-width_of-ne0-2.false c.set_match.ensures.matches, matches_on (viewed_all _) c.set_match.ensures)

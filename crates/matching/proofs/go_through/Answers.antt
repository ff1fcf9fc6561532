use Rattle.notes.specs.Views.{length_field}
use Rattle.matching.specs.Handing.{few_handed}
use Rattle.matching.specs.Matching.{turned_low}
use Rattle.matching.specs.Through.{blank_few, through_start, through_turn, through_few, through_end}
use Rattle.matching.specs.Noted.{matches_on, turned_new_out}
use borrow.Author.Rules.{rules}
use Rattle.matching.proofs.go_through.Goals as goal

pub loop-at-init : goal.loop-at-init
loop-at-init c =
    record {
      node = search rules;
      token = search rules;
      through = through_start _ _ _ _ _ _ _ _ _ _ _ c.requires.0 (rw length_field (search rules)) c.requires.6 c.hand.ensures.0;
      few = few_handed (blank_few c.requires.6) (rw length_field (search rules)) (search rules) c.hand.ensures.0;
      viewed = c.hand.ensures.1;
    }

pub loop-at-smaller : goal.loop-at-smaller
loop-at-smaller c = let x = turned_low c.turn-at.ensures.0 in search rules

pub loop-at-preserved : goal.loop-at-preserved
loop-at-preserved c =
    let u = c.loop-at.invariant in
    let x = through_turn u.through (search rules) (rw length_field (search rules)) c.requires.7 (turned_new_out u.viewed c.turn-at.ensures.0) in
    record { node = search rules; token = through_few x; through = x; few = c.turn-at.ensures.1; viewed = matches_on u.viewed c.turn-at.ensures.2 }

pub returns : goal.returns
returns c = let u = c.loop-at.invariant in (through_end u.through (search rules), u.few, u.viewed)

use Rattle.matching.specs.Carrying.{few_row}
use Rattle.matching.specs.Matching.{turned_zero, turned_some, turned_row}
use Rattle.matching.specs.Noted.{matches_on, handed_all_new_out, stepped_new_out, reach_new_out}
use borrow.Author.Rules.{rules}
use Rattle.matching.proofs.turn.Goals as goal

pub returns-in_default : goal.returns-in_default
returns-in_default c =
    let h = c.seek.ensures in
    let e = c.in_default.ensures in
    let f = c.step.ensures.node in
    (turned_zero h.0 e.3 (stepped_new_out h.2 c.step.ensures), h.1, h.2, search rules)

pub returns-in_default-reach : goal.returns-in_default-reach
returns-in_default-reach c =
    let h = c.seek.ensures in
    let v = matches_on h.2 c.hand_on.ensures.2 in
    let f = c.step-in_default-reach.ensures.node in
    (turned_some _ h.0 c.in-Some.ensures.3 (handed_all_new_out h.2 c.hand_on.ensures.0) (stepped_new_out v c.step-in_default-reach.ensures), c.hand_on.ensures.1, v, search rules)

pub returns : goal.returns
returns c =
    let h = c.seek.ensures in
    let r = c.in-Some-reach.ensures in
    (turned_row _ _ h.0 c.in-Some.ensures.3 (reach_new_out h.2 r.0) c.carry.ensures.0 c.width_of-width.ensures.0, few_row h.1 (search rules) c.carry.ensures.0, matches_on h.2 c.carry.ensures.1, search rules)

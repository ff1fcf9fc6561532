use Rattle.notes.specs.Views.{length_field}
use Rattle.matching.specs.Handing.{rise_low, few_handed, handing_next}
use Rattle.matching.specs.Noted.{matches_on, end_out, handed_new_out}
use borrow.Author.Rules.{rules}
use Rattle.matching.proofs.hand_on.Goals as goal

pub loop-c-preserved : goal.loop-c-preserved
loop-c-preserved c =
    let u = c.loop-c.invariant in
    let v = matches_on u.viewed c.hand.ensures.1 in
    let x = end_out v _ _ c.end_of-c.ensures.0 in
    let y = end_out v _ _ c.end_of-d.ensures.0 in
    let p = rise_low c.requires.3 (search rules) (search rules) x in
    let q = rise_low c.requires.2 (search rules) (search rules) y in
    let h = handed_new_out u.viewed c.hand.ensures.0 in
    record {
      last = search rules;
      stop = search rules;
      low_c = search rules;
      low_d = search rules;
      handing = handing_next u.handing _ _ _ _ c.end_of-last.ensures.0 c.end_of-stop.ensures.0 (search rules) (search rules) (search rules) (rw length_field (search rules)) x y p q h;
      few = few_handed u.few (rw length_field (search rules)) (search rules) h;
      viewed = v;
    }

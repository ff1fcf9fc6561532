use Rattle.std.proofs.Common.{◌<◌, ◌≤◌, None, Some}
use Rattle.keeping.specs.Matched.{fit_few}
use Rattle.keeping.specs.Seen.{seen_here, seen_more, held_then, marks_room}
use Rattle.keeping.specs.Marking.{keeps_few, marks_start, keeps_start, marks_none, keeps_none, marks_some, keeps_some}
use borrow.Author.Rules.{rules}
use Rattle.keeping.proofs.hold_all.Goals as goal

pub loop-i-init : goal.loop-i-init
loop-i-init c = let h = c.clear_marks.ensures in record { seen = seen_more (seen_here _) h; marks = marks_start _ _ _ _ h.marks; keeps = keeps_start _ _ }

pub loop-i-preserved-in_default : goal.loop-i-preserved-in_default
loop-i-preserved-in_default c =
    let u = c.loop-i.invariant in
    let e = held_then u.seen _ None c.in_default.ensures in
    record { seen = u.seen; marks = marks_none _ _ _ e u.marks; keeps = keeps_none _ _ _ e u.keeps }

pub set_mark-requires : goal.set_mark-requires
set_mark-requires c =
    let e = held_then c.loop-i.invariant.seen _ (Some c.in-Some.s) c.in-Some.ensures in
    let l : c.loop-i.i < c.args.k = search rules in
    let x = fit_few c.loop-i.i c.requires.2 l in
    search rules

pub overflow_add-kept : goal.overflow_add-kept
overflow_add-kept c = let x = keeps_few c.loop-i.invariant.keeps in search rules

pub loop-i-preserved : goal.loop-i-preserved
loop-i-preserved c =
    let u = c.loop-i.invariant in
    let e = held_then u.seen _ (Some c.in-Some.s) c.in-Some.ensures in
    let k : c.loop-i.i < c.args.k = search rules in
    let x = fit_few c.loop-i.i c.requires.2 k in
    let l : c.in-Some.s ≤ c.loop-i.notes.slots = search rules in
    record {
      seen = seen_more u.seen c.set_mark.ensures;
      marks = marks_some _ _ _ _ e (marks_room c.loop-i.notes _ l) c.set_mark.ensures.marks u.marks;
      keeps = keeps_some _ _ _ _ e u.keeps;
    }

use Rattle.std.proofs.lemmas.Result.{err_from_is_err_and}
use Rattle.altering.specs.Treed.{treed_sized, treed_long, treed_room}
use Rattle.altering.specs.Outcome.{few_refused}
use Rattle.altering.specs.Course.{sentence_long, course_ground, course_refused, course_fits, course_doubled, course_settled, few_altered}
use Rattle.std.proofs.Common.{refl}
use borrow.Author.Rules.{rules}
use Rattle.altering.proofs.alter.Goals as goal

pub new_sentence-r-requires : goal.new_sentence-r-requires
new_sentence-r-requires c = let p = c.requires in let f = treed_sized _ _ _ _ _ _ p.2 in (search rules, search rules)

pub parse-requires : goal.parse-requires
parse-requires c = let p = c.requires in let e = c.new_sentence-r.ensures in let f = treed_sized _ _ _ _ _ _ p.2 in (course_ground _ _ _ _ _ p.0 p.2 p.3 e.1 (e.0 _ (sentence_long _ p.3)) refl p.1, search rules, search rules, search rules)

pub settle-kept-requires : goal.settle-kept-requires
settle-kept-requires c = let p = c.requires in let e = c.new_sentence-r.ensures in let f = treed_sized _ _ _ _ _ _ p.2 in (course_doubled _ _ _ _ _ p.0 p.2 p.3 e.1 (e.0 _ (sentence_long _ p.3)) refl (search rules) p.4 _ c.in_ok-total.ensures (treed_long _ _ _ _ _ _ p.2 p.5), treed_room _ _ _ _ _ _ p.2 _ p.5 (search rules))

pub returns : goal.returns
returns c = let p = c.requires in let e = c.new_sentence-r.ensures in let f = treed_sized _ _ _ _ _ _ p.2 in let s = c.settle-kept.ensures in (course_settled _ _ _ _ _ p.0 p.2 p.3 e.1 (e.0 _ (sentence_long _ p.3)) refl (search rules) p.4 _ c.in_ok-total.ensures (treed_long _ _ _ _ _ _ p.2 p.5) s.0, few_altered s.1 s.2 (course_fits _ _ _ _ _ p.0 p.2 p.3 e.1 (e.0 _ (sentence_long _ p.3)) refl (search rules) p.4 _ c.in_ok-total.ensures (treed_long _ _ _ _ _ _ p.2 p.5)) f.1)

pub returns-in_err-total : goal.returns-in_err-total
returns-in_err-total c =
    let p = c.requires in
    let e = c.new_sentence-r.ensures in
    let q = err_from_is_err_and c.from_residual.result c.from_residual.ensures.1 in
    rw (q.1, q.2) (course_refused _ _ _ _ _ p.0 p.2 p.3 e.1 (e.0 _ (sentence_long _ p.3)) refl (search rules) _ c.in_err-total.ensures, few_refused _)

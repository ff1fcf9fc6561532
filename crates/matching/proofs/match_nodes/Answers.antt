use Rattle.matching.specs.Finding.{leaved}
use Rattle.matching.specs.Through.{blank_zeros, first_zero, rising_old, rising_new, matched_all}
use Rattle.matching.specs.Noted.{spans_on, starts_on, matches_on, started_in, rising_in, rising_new_in, leaved_new_in, gauged_out, started_out, matches_new_out, built_lent, new_lent, one_lent, matching_lent, few_lent, nodes_lent}
use borrow.Author.Rules.{rules}
use Rattle.matching.proofs.match_nodes.Goals as goal

pub mark_starts-tokens-requires : goal.mark_starts-tokens-requires
mark_starts-tokens-requires c = (search rules, first_zero _ _ (spans_on (spans_on c.clear.ensures c.measure.ensures.1) c.measure-2.ensures.1).starts)

pub go_through-requires : goal.go_through-requires
go_through-requires c =
    let l = c.new-notes.ensures.1 in
    let u = spans_on c.clear.ensures c.measure.ensures.1 in
    let v = spans_on u c.measure-2.ensures.1 in
    let w = starts_on v c.mark_starts-tokens.ensures.1 in
    let g = gauged_out c.clear.ensures _ _ c.measure.ensures.0 in
    let h = rw (← l.slots) at (gauged_out u _ _ c.measure-2.ensures.0) in (
      search rules,
      search rules,
      search rules,
      started_in c.mark_starts-tokens.ensures.1 c.mark_starts-tokens.ensures.0,
      rising_in w (rising_old _ _ _ _ _ g h (search rules)),
      rising_new_in w _ (rising_new _ _ _ _ h),
      blank_zeros _ _ w.matches,
      leaved_new_in w _ (leaved _ _ _ _ (new_lent l c.requires.1) h.measured),
    )

pub returns : goal.returns
returns c =
    let l = c.new-notes.ensures.1 in
    let u = spans_on c.clear.ensures c.measure.ensures.1 in
    let v = spans_on u c.measure-2.ensures.1 in
    let w = starts_on v c.mark_starts-tokens.ensures.1 in
    let g = gauged_out c.clear.ensures _ _ c.measure.ensures.0 in
    let h = rw (← l.slots) at (gauged_out u _ _ c.measure-2.ensures.0) in
    let x = matches_on w c.go_through.ensures.2 in
    let m = matched_all _ _ _ _ _ g h (search rules) (built_lent l c.requires.0) (new_lent l c.requires.1) (one_lent l _ _ c.requires.2) (started_out v c.mark_starts-tokens.ensures.0) (matches_new_out w c.go_through.ensures.0) in
    (matching_lent l x.same (search rules) m, few_lent l x.same (search rules) c.go_through.ensures.1, nodes_lent l x.same (search rules) x.nodes)

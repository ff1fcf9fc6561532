use Rattle.grammar.specs.Rows.{grammar_in, start_small}
use Rattle.editing.specs.Editing.{found_tree, mapped_err, thrown}
use Rattle.kindlesap.specs.GrammarChecks.{checked_ready, checked_fit}
use Rattle.kindlesap.specs.AreaChecks.{area_sized, area_wrong}
use Rattle.kindlesap.specs.ParseChecks.{counted, tokens_good}
use Rattle.kindlesap.specs.EditChecks.{edit_3, edit_4, edit_5, edit_5_6, edit_7, edit_8, edit_rest}
use borrow.Author.Rules.{rules}
use Rattle.kindlesap.proofs.call_edit.edit_checked.Goals as goal

pub returns-in_err-head : goal.returns-in_err-head
returns-in_err-head c =
    rw (thrown _ c.from_residual.ensures.1) (edit_3 _ _ _ _ _ _ _ c.check.ensures c.in_err-head.was)

pub is_prepared-requires : goal.is_prepared-requires
is_prepared-requires c = checked_ready _ c.check.ensures c.in_ok-head.was

pub returns-then-not-is_prepared : goal.returns-then-not-is_prepared
returns-then-not-is_prepared c =
    let f = checked_fit _ c.check.ensures c.in_ok-head.was in
    edit_4 f _ _ _ _ _ _ (c.is_prepared.ensures.no c.if-not-is_prepared.true)

pub returns-in_err-slots : goal.returns-in_err-slots
returns-in_err-slots c =
    let f = checked_fit _ c.check.ensures c.in_ok-head.was in
    rw (thrown _ c.from_residual-in_err-slots.ensures.1) (edit_5 f _ _ _ _ _ _ (c.is_prepared.ensures.yes c.if-not-is_prepared.false) _ (area_wrong _ c.slots_of.ensures c.ok_or.ensures.value _ c.in_err-slots.was))

pub old_tree-requires : goal.old_tree-requires
old_tree-requires c =
    let f = checked_fit _ c.check.ensures c.in_ok-head.was in
    (area_sized _ c.slots_of.ensures c.ok_or.ensures.value _ c.in_ok-slots.was, start_small _ _ f.prepared.formed)

pub returns-in_err-nodes : goal.returns-in_err-nodes
returns-in_err-nodes c =
    let f = checked_fit _ c.check.ensures c.in_ok-head.was in
    let z = area_sized _ c.slots_of.ensures c.ok_or.ensures.value _ c.in_ok-slots.was in
    rw (thrown _ c.from_residual-in_err-nodes.ensures.1) (edit_5_6 f _ _ _ _ _ _ (c.is_prepared.ensures.yes c.if-not-is_prepared.false) _ z _ c.old_tree.ensures c.in_err-nodes.was)

pub returns-in_err-map_err : goal.returns-in_err-map_err
unfolding grammar_in
returns-in_err-map_err c =
    let f = checked_fit _ c.check.ensures c.in_ok-head.was in
    let (h, l, k) = found_tree _ c.old_tree.ensures c.in_ok-nodes.was in
    let e = mapped_err _ c.read_tokens.result _ c.map_err.ensures.cases c.in_err-map_err.was in
    rw (thrown _ c.from_residual-in_err-map_err.ensures.1, e.2) (edit_7 f _ _ _ _ _ _ (c.is_prepared.ensures.yes c.if-not-is_prepared.false) _ h.valid l (rw e.1 at c.read_tokens.ensures))

pub returns-then-not-in_range : goal.returns-then-not-in_range
unfolding grammar_in
returns-then-not-in_range c =
    let f = checked_fit _ c.check.ensures c.in_ok-head.was in
    let (h, l, k) = found_tree _ c.old_tree.ensures c.in_ok-nodes.was in
    edit_8 f _ _ _ _ _ _ (c.is_prepared.ensures.yes c.if-not-is_prepared.false) _ h.valid l (tokens_good _ c.read_tokens.ensures _ _ c.map_err.ensures.cases c.in_ok-map_err.was) _ c.get16-old_tokens.ensures.0 (c.in_range.ensures.no c.if-not-in_range.true)

pub renew-requires : goal.renew-requires
renew-requires c =
    let f = checked_fit _ c.check.ensures c.in_ok-head.was in
    let (h, l, k) = found_tree _ c.old_tree.ensures c.in_ok-nodes.was in
    let i = c.in_range.ensures.yes c.if-not-in_range.false in
    (f.prepared, c.is_prepared.ensures.yes c.if-not-is_prepared.false, h, (counted (tokens_good _ c.read_tokens.ensures _ _ c.map_err.ensures.cases c.in_ok-map_err.was)).sentence, search rules, k)

pub returns : goal.returns
unfolding grammar_in
returns c =
    let f = checked_fit _ c.check.ensures c.in_ok-head.was in
    let (h, l, k) = found_tree _ c.old_tree.ensures c.in_ok-nodes.was in
    edit_rest f _ _ _ _ _ _ (c.is_prepared.ensures.yes c.if-not-is_prepared.false) _ h.valid l (tokens_good _ c.read_tokens.ensures _ _ c.map_err.ensures.cases c.in_ok-map_err.was) _ c.get16-old_tokens.ensures.0 (c.in_range.ensures.yes c.if-not-in_range.false) _ _ c.renew.ensures

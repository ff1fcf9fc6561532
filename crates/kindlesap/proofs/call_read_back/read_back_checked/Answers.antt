use Rattle.std.proofs.Common.{◌≡◌}
use Rattle.replies.specs.Reply.{no_counts}
use Rattle.grammar.specs.Rows.{start_small}
use Rattle.altering.specs.Treed.{treed_few, treed_fits}
use Rattle.editing.specs.Editing.{thrown}
use Rattle.kindlesap.specs.GrammarChecks.{checked_fit}
use Rattle.kindlesap.specs.AreaChecks.{area_sized, area_wrong}
use Rattle.kindlesap.specs.ReadBackChecks.{tree_read, tree_wrong, read_3, read_5, read_none, read_11, read_done, tokens_fit}
use borrow.Author.Rules.{rules}
use Rattle.kindlesap.proofs.call_read_back.read_back_checked.Goals as goal

pub returns-in_err-head : goal.returns-in_err-head
returns-in_err-head c =
    rw (thrown _ c.from_residual.ensures.1) (read_3 _ _ _ c.check.ensures c.in_err-head.was)

pub returns-in_err-slots : goal.returns-in_err-slots
returns-in_err-slots c =
    rw (thrown _ c.from_residual-in_err-slots.ensures.1) (read_5 _ _ (checked_fit _ c.check.ensures c.in_ok-head.was) _ _ _ (area_wrong _ c.slots_of.ensures c.ok_or.ensures.value _ c.in_err-slots.was))

pub read_tree-requires : goal.read_tree-requires
read_tree-requires c =
    let f = checked_fit _ c.check.ensures c.in_ok-head.was in
    let z = area_sized _ c.slots_of.ensures c.ok_or.ensures.value _ c.in_ok-slots.was in
    let u = z.few in
    (z.some, z.few, z.long, search rules, start_small _ _ f.prepared.formed)

pub returns-in_err-o : goal.returns-in_err-o
returns-in_err-o c =
    let z = area_sized _ c.slots_of.ensures c.ok_or.ensures.value _ c.in_ok-slots.was in
    let t = tree_wrong _ c.read_tree.ensures c.ok_or-2.ensures.value _ c.in_err-o.was in
    rw (thrown _ c.from_residual-in_err-o.ensures.1, t.0) (read_none _ _ (checked_fit _ c.check.ensures c.in_ok-head.was) _ _ _ z t.1)

pub returns-then-output-need : goal.returns-then-output-need
returns-then-output-need c =
    let h = tree_read _ c.read_tree.ensures c.ok_or-2.ensures.value _ c.in_ok-o.was in
    read_11 _ _ (checked_fit _ c.check.ensures c.in_ok-head.was) _ _ _ _ _ h _ c.get16-tokens.ensures.0 _ (search rules) (search rules)

pub give_out-requires : goal.give_out-requires
give_out-requires c =
    let h = tree_read _ c.read_tree.ensures c.ok_or-2.ensures.value _ c.in_ok-o.was in
    let f = treed_fits _ _ _ _ _ _ h in
    let k = tokens_fit _ _ _ _ _ _ _ h c.get16-tokens.ensures.0 in
    let z = area_sized _ c.slots_of.ensures c.ok_or.ensures.value _ c.in_ok-slots.was in
    let u = z.few in
    search rules

pub overflow_cast-result : goal.overflow_cast-result
overflow_cast-result c =
    let f = treed_few _ _ _ _ _ _ (tree_read _ c.read_tree.ensures c.ok_or-2.ensures.value _ c.in_ok-o.was) in
    search rules

pub returns : goal.returns
returns c =
    let h = tree_read _ c.read_tree.ensures c.ok_or-2.ensures.value _ c.in_ok-o.was in
    let d : c.default.result ≡ no_counts = search rules in rw d (read_done _ _ (checked_fit _ c.check.ensures c.in_ok-head.was) _ _ _ _ _ h _ c.get16-tokens.ensures.0 _ _ _ (search rules) c.give_out.ensures)

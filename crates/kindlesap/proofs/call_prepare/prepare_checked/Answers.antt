use Rattle.std.proofs.Common.{◌≡◌}
use Rattle.replies.specs.Reply.{no_counts}
use Rattle.editing.specs.Editing.{thrown}
use Rattle.kindlesap.specs.GrammarChecks.{checked_ready, checked_fit}
use Rattle.kindlesap.specs.PrepareChecks.{prepare_3, prepare_4, prepare_done}
use borrow.Author.Rules.{rules}
use Rattle.kindlesap.proofs.call_prepare.prepare_checked.Goals as goal

pub returns-in_err-head : goal.returns-in_err-head
returns-in_err-head c =
    rw (thrown _ c.from_residual.ensures.1) (prepare_3 _ _ _ c.check.ensures c.in_err-head.was)

pub returns-then-tables-ne-TABLES_SIZE : goal.returns-then-tables-ne-TABLES_SIZE
returns-then-tables-ne-TABLES_SIZE c =
    prepare_4 (checked_fit _ c.check.ensures c.in_ok-head.was) _ _ (search rules)

pub write_tables-requires : goal.write_tables-requires
write_tables-requires c = (checked_ready _ c.check.ensures c.in_ok-head.was, search rules)

pub returns : goal.returns
returns c = let d : c.default.result ≡ no_counts = search rules in rw d (prepare_done (checked_fit _ c.check.ensures c.in_ok-head.was) _ _ _ (search rules) c.write_tables.ensures)

use Rattle.grammar.specs.Rows.{grammar_in}
use Rattle.editing.specs.Editing.{mapped_err, thrown}
use Rattle.kindlesap.specs.GrammarChecks.{checked_ready, checked_fit}
use Rattle.kindlesap.specs.AreaChecks.{area_sized, area_wrong}
use Rattle.kindlesap.specs.ParseChecks.{parse_3, parse_4, parse_5, parse_6, parse_7, parse_rest, grounded, tokens_good}
use borrow.Author.Rules.{rules}
use Rattle.kindlesap.proofs.call_parse.parse_checked.Goals as goal

pub returns-in_err-head : goal.returns-in_err-head
returns-in_err-head c =
    rw (thrown _ c.from_residual.ensures.1) (parse_3 _ _ _ _ _ _ c.check.ensures c.in_err-head.was)

pub is_prepared-requires : goal.is_prepared-requires
is_prepared-requires c = checked_ready _ c.check.ensures c.in_ok-head.was

pub returns-then-not-is_prepared : goal.returns-then-not-is_prepared
returns-then-not-is_prepared c =
    let f = checked_fit _ c.check.ensures c.in_ok-head.was in
    parse_4 f _ _ _ _ _ (c.is_prepared.ensures.no c.if-not-is_prepared.true)

pub returns-in_err-slots : goal.returns-in_err-slots
returns-in_err-slots c =
    let f = checked_fit _ c.check.ensures c.in_ok-head.was in
    rw (thrown _ c.from_residual-in_err-slots.ensures.1) (parse_5 f _ _ _ _ _ (c.is_prepared.ensures.yes c.if-not-is_prepared.false) _ (area_wrong _ c.slots_of.ensures c.ok_or.ensures.value _ c.in_err-slots.was))

pub returns-then-work-need : goal.returns-then-work-need
returns-then-work-need c =
    let f = checked_fit _ c.check.ensures c.in_ok-head.was in
    let z = area_sized _ c.slots_of.ensures c.ok_or.ensures.value _ c.in_ok-slots.was in
    parse_6 f _ _ _ _ _ (c.is_prepared.ensures.yes c.if-not-is_prepared.false) _ z _ (search rules) (search rules)

pub returns-in_err-map_err : goal.returns-in_err-map_err
unfolding grammar_in
returns-in_err-map_err c =
    let f = checked_fit _ c.check.ensures c.in_ok-head.was in
    let z = area_sized _ c.slots_of.ensures c.ok_or.ensures.value _ c.in_ok-slots.was in
    let e = mapped_err _ c.read_tokens.result _ c.map_err.ensures.cases c.in_err-map_err.was in
    rw (thrown _ c.from_residual-in_err-map_err.ensures.1, e.2) (parse_7 f _ _ _ _ _ (c.is_prepared.ensures.yes c.if-not-is_prepared.false) _ z (search rules) (rw e.1 at c.read_tokens.ensures))

pub parse_tokens-requires : goal.parse_tokens-requires
parse_tokens-requires c =
    let f = checked_fit _ c.check.ensures c.in_ok-head.was in
    let z = area_sized _ c.slots_of.ensures c.ok_or.ensures.value _ c.in_ok-slots.was in
    (grounded _ _ _ _ f.prepared (c.is_prepared.ensures.yes c.if-not-is_prepared.false) (tokens_good _ c.read_tokens.ensures _ _ c.map_err.ensures.cases c.in_ok-map_err.was), z, search rules)

pub returns : goal.returns
unfolding grammar_in
returns c =
    let f = checked_fit _ c.check.ensures c.in_ok-head.was in
    let z = area_sized _ c.slots_of.ensures c.ok_or.ensures.value _ c.in_ok-slots.was in
    parse_rest f _ _ _ _ _ (c.is_prepared.ensures.yes c.if-not-is_prepared.false) _ z (search rules) (tokens_good _ c.read_tokens.ensures _ _ c.map_err.ensures.cases c.in_ok-map_err.was) _ _ c.parse_tokens.ensures

use Rattle.editing.specs.Editing.{mapped_err, thrown}
use Rattle.kindlesap.specs.GrammarChecks.{got_good, bounds, have_rows, check_bad, check_useless, check_conflict, check_fits}
use borrow.Author.Rules.{rules}
use Rattle.kindlesap.proofs.checks.Analysis.check.Goals as goal

pub returns-in_err-head : goal.returns-in_err-head
returns-in_err-head c =
    let e = mapped_err _ c.read_grammar.result _ c.map_err.ensures.cases c.in_err-head.was in
    rw (thrown _ c.from_residual.ensures.1, e.2) (check_bad e.0 c.read_grammar.ensures e.1)

pub returns-in-Some : goal.returns-in-Some
returns-in-Some c =
    let g = got_good _ c.read_grammar.ensures _ _ c.map_err.ensures.cases c.in_ok-head.was in
    check_useless _ _ g _ c.analyse.ensures _ c.in-Some.ensures

pub predict-requires : goal.predict-requires
predict-requires c =
    let g = got_good _ c.read_grammar.ensures _ _ c.map_err.ensures.cases c.in_ok-head.was in
    let h = bounds _ _ g in
    (search rules, search rules, search rules, have_rows _ _ g _ c.analyse.ensures)

pub returns-in-Some-predict : goal.returns-in-Some-predict
returns-in-Some-predict c =
    let g = got_good _ c.read_grammar.ensures _ _ c.map_err.ensures.cases c.in_ok-head.was in
    check_conflict _ _ g _ c.analyse.ensures c.in_default.ensures _ _ c.in-Some-predict.ensures

pub returns : goal.returns
returns c =
    let g = got_good _ c.read_grammar.ensures _ _ c.map_err.ensures.cases c.in_ok-head.was in
    check_fits _ _ g _ c.analyse.ensures c.in_default.ensures _ c.in_default-predict.ensures

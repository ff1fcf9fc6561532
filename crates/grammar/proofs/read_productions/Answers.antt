use Rattle.std.proofs.Common.{◌≡◌, sym, None}
use Rattle.std.proofs.lemmas.Bool.{eqb-false}
use Rattle.std.proofs.lemmas.Result.{err_from_is_err_and}
use borrow.Author.Rules.{rules}
use Rattle.grammar.specs.Reading.{reading_start, reading_more, reading_full, reading_bad}
use Rattle.grammar.specs.Outcome.{reads_end}
use Rattle.grammar.proofs.read_productions.Goals as goal

pub loop-rest-init : goal.loop-rest-init
loop-rest-init c = record { few = search rules; terminals = search rules; nonterminals = search rules; reading = search (reading_start, rules) }

pub returns-then-head-eq-MAX_PRODUCTIONS : goal.returns-then-head-eq-MAX_PRODUCTIONS
returns-then-head-eq-MAX_PRODUCTIONS c = reading_full _ _ _ _ _ _ _ _ c.loop-rest.invariant.reading (eqb-false _ _ (sym c.loop-rest-test.ensures)) c.if-head-eq-MAX_PRODUCTIONS.true

pub returns-in_err-size : goal.returns-in_err-size
returns-in_err-size c =
    let p = err_from_is_err_and c.from_residual.result c.from_residual.ensures.1 in
    let n : c.production_size.result ≡ None = c.in_err-size.ensures.ok_part in
    let e : c.in_err-size.field-0.0 ≡ record { offset = c.loop-rest.offset } = cc (rw n at c.in_err-size.ensures.value) in
    rw (p.1, p.2, e) (reading_bad _ _ _ _ _ _ _ _ c.loop-rest.invariant.reading (eqb-false _ _ (sym c.loop-rest-test.ensures)) (rw n at c.production_size.ensures.0))

pub loop-rest-preserved : goal.loop-rest-preserved
loop-rest-preserved c =
    let s = rw c.in_ok-size.ensures.ok_part at c.production_size.ensures in
    record { few = search rules; terminals = search rules; nonterminals = search rules; reading = search (reading_more, rules) }

pub returns : goal.returns
returns c = reads_end _ _ _ _ _ _ _ _ c.loop-rest.invariant.reading (search rules)

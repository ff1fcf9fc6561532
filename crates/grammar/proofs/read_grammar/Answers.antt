use Rattle.std.proofs.Common.{◌≡◌, ◌∙◌, sym, None, arith}
use Rattle.std.proofs.lemmas.Result.{err_from_is_err_and}
use Rattle.grammar.specs.Rows.{zeros_filled}
use Rattle.grammar.specs.Reading.{headed_of, counted_of}
use Rattle.grammar.specs.Outcome.{reads_headless, reads_cleared}
use Rattle.grammar.proofs.read_grammar.Goals as goal

pub returns-in_err-head : goal.returns-in_err-head
returns-in_err-head c =
    let p = err_from_is_err_and c.from_residual.result c.from_residual.ensures.1 in
    let n : c.read_head.result ≡ None = c.in_err-head.ensures.ok_part in
    let z = zeros_filled _ _ _ (c.fill.ensures.after (λ y e. e)) (omega arith) in
    let e : c.in_err-head.field-0.0 ≡ record { offset = 0 } = cc (rw n at c.in_err-head.ensures.value) in
    rw (p.1, p.2, e) (reads_headless _ _ (rw n at c.read_head.ensures) z)

pub read_productions-outcome-requires : goal.read_productions-outcome-requires
read_productions-outcome-requires c = let h = rw c.in_ok-head.ensures.ok_part at c.read_head.ensures in (headed_of h, counted_of h, zeros_filled _ _ _ (c.fill.ensures.after (λ y e. e)) (omega arith))

pub returns-then-is_err : goal.returns-then-is_err
returns-then-is_err c = reads_cleared _ _ _ _ c.read_productions-outcome.ensures (sym c.is_err.ensures.value ∙ c.if-is_err.true) (zeros_filled _ _ _ (c.fill-then-is_err.ensures.after (λ y e. e)) (omega arith))

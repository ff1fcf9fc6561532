use Rattle.std.proofs.Common.{arith}
use Rattle.plain.specs.Outcome.{told_kind, told_cut, told_good}
use Rattle.plain.proofs.read_tokens.Goals as goal

pub returns-then-kind-eq0 : goal.returns-then-kind-eq0
returns-then-kind-eq0 c = told_kind c.loop-i.invariant (λ k. omega (arith, c.type_inv.tokens k)) c.loop-i-test.true (λ w. omega (arith, w.0, w.1))

pub returns-then-tokens-eq0 : goal.returns-then-tokens-eq0
returns-then-tokens-eq0 c = told_good c.loop-i.invariant (λ k. omega (arith, c.type_inv.tokens k)) (omega arith) c.if-tokens-eq0.true

pub returns-else-tokens-eq0 : goal.returns-else-tokens-eq0
returns-else-tokens-eq0 c = told_cut c.loop-i.invariant (λ k. omega (arith, c.type_inv.tokens k)) (omega arith) c.if-tokens-eq0.false

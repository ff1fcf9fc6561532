use Rattle.plain.specs.Tokens.{Kinds}
use Rattle.plain.proofs.read_tokens.Given as goal

abbrev pub invariant-loop-i : goal.invariant-loop-i
invariant-loop-i l = Kinds l.t l.tokens l.i

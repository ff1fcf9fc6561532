use Rattle.base.specs.Blocks.{zeros, zeros_sized}
use borrow.Author.Rules.{rules}
use Rattle.kindlesap.proofs.parse.Goals as goal

pub returns : goal.returns
unfolding zeros
returns c =
    record {
      outcome = rw c.into.ensures c.parse_checked-call.ensures;
      cleared = zeros_sized _ _ _ (c.fill.ensures.after (λ y e. e)) (search rules);
    }

use Rattle.std.proofs.Common.{ℕ, ◌∙◌, ap, rules, arith}
use Rattle.base.specs.Bytes.{le_bytes}
use Rattle.base.specs.Blocks.{copied}
use Rattle.base.specs.Written.{eight_put}
use Rattle.base.proofs.put_eight.Goals as goal

-- the value that is written is left to arithmetic, so that what is refused is a wrong value and not another way to say the same
pub returns : goal.returns
returns c = eight_put _ _ _ _ (search rules) (search rules) (c.put.ensures ∙ ap (λ (v : ℕ). copied c.args.b.now c.args.at (le_bytes 8 v)) (omega arith))

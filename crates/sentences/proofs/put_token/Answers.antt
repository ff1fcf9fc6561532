use Rattle.std.proofs.Common.{◌∙◌, arith}
use Rattle.base.specs.Bytes.{length_le}
use Rattle.sentences.specs.Adding.{copied_part}
use Rattle.sentences.proofs.put_token.Goals as goal

pub returns : goal.returns
returns c = copied_part _ _ _ _ _ (c.copy_from_slice.ensures.after ∙ c.token_bytes.ensures) (omega (arith, length_le 4 c.args.leaf.tag)) (omega arith)

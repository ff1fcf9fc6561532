use Rattle.std.proofs.Common.{◌∙◌, ap, take, arith}
use Rattle.base.specs.Bytes.{le_low, length_le}
use Rattle.base.specs.Blocks.{copied_put}
use Rattle.base.proofs.put.Goals as goal

pub returns : goal.returns
returns g c =
    let n = length_le g.row.N c.args.v in
    copied_put _ _ _ (omega arith) _ _ (omega arith) (c.copy_from_slice.ensures.after ∙ ap (take g.row.N) c.to_le_bytes.ensures ∙ le_low 8 g.row.N c.args.v (omega arith))

use Rattle.std.proofs.Common.{◌+◌, slice_range, arith}
use Rattle.std.proofs.lemmas.List.Edits.{get_or-between}
use Rattle.base.specs.Written.{get64_number}
use Rattle.base.proofs.eight.Goals as goal

pub returns : goal.returns
returns c =
    get64_number _ (slice_range c.args.b.now c.args.at (c.args.at + 8)) _ _ c.number.ensures.0 (λ i l. get_or-between c.args.b.now _ _ i 0 (omega arith))

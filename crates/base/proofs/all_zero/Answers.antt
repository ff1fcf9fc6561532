use Rattle.std.proofs.Common.{take_all, rules}
use Rattle.base.specs.Blocks.{zeros_told}
use Rattle.base.proofs.all_zero.Goals as goal

-- `take_all` serves a fold over a part that is the whole, so that what is refused is a part that is not
pub returns : goal.returns
returns c = zeros_told _ _ (search (rules, take_all))

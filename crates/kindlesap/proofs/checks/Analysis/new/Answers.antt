use Rattle.std.proofs.Common.{refl}
use Rattle.base.specs.Blocks.{zeros}
use Rattle.kindlesap.proofs.checks.Analysis.new.Goals as goal

pub returns : goal.returns
unfolding zeros
returns c = refl

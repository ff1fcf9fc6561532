use Rattle.predictions.specs.Hits.{hasb}
use Rattle.std.proofs.Common.{refl}
use Rattle.tables.proofs.in_mask.Goals as goal

pub returns : goal.returns
unfolding hasb
returns c = refl

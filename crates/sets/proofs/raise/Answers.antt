use Rattle.std.proofs.Common.{refl}
use Rattle.sets.specs.Sweeps.{raise_is, raise_grew}
use borrow.Author.Rules.{rules}
use Rattle.sets.proofs.raise.Goals as goal

pub returns : goal.returns
returns c = (raise_is _ _ _ _ _ refl refl, raise_grew _ _ _ _ _ (search rules) refl refl)

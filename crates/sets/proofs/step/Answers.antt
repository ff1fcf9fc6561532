use Rattle.sets.specs.Sweeps.{step_join}
use Rattle.sets.proofs.step.Goals as goal

pub returns : goal.returns
returns c = step_join _ _ _ _ _ _ _ _ _ c.leads-behind.ensures c.raise-a.ensures c.raise-b.ensures

use Rattle.std.proofs.Common.{arith, rules}
use Rattle.tables.specs.Writing.{broken_more}
use Rattle.tables.proofs.Stems.write_breaks.Goals as goal

pub loop-r-preserved : goal.loop-r-preserved
loop-r-preserved c = broken_more _ _ _ _ _ _ (omega arith) (omega arith) (omega arith) c.loop-r.invariant (c.fill-in-loop-r.ensures 0 _ (λ i v l h. search rules))

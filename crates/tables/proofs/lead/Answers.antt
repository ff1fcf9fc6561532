use Rattle.std.proofs.Common.{arith}
use Rattle.tables.specs.Writing.{lead_found, lead_on, lead_none}
use Rattle.tables.proofs.lead.Goals as goal

pub returns-then-has-clause-first : goal.returns-then-has-clause-first
returns-then-has-clause-first c = lead_found _ _ _ _ _ _ _ (omega arith) c.symbol_at-x.ensures.0 c.has.ensures c.if-has.true c.loop-j.invariant

pub loop-j-preserved : goal.loop-j-preserved
loop-j-preserved c = lead_on _ _ _ _ _ _ _ (omega arith) c.symbol_at-x.ensures.0 c.has.ensures c.if-has.false c.loop-j.invariant

pub returns-clause-first : goal.returns-clause-first
returns-clause-first c = lead_none _ _ _ _ _ (omega arith) c.loop-j.invariant

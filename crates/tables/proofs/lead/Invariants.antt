use Rattle.tables.specs.Writing.{LeadAt}
use Rattle.tables.proofs.lead.Given as goal

abbrev pub invariant-loop-j : goal.invariant-loop-j
invariant-loop-j l = LeadAt l.rows l.sets l.p l.a l.j

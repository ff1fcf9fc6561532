use Rattle.std.proofs.Common.{sym, ◌∙◌}
use Rattle.tables.specs.Writing.{implied_none, implied_behind, implied_meet}
use Rattle.tables.proofs.Stems.implied.Goals as goal

pub returns-then-step_at-eq0-clause-is : goal.returns-then-step_at-eq0-clause-is
returns-then-step_at-eq0-clause-is c = implied_none _ _ _ _ _ _ (sym c.step_at.ensures.is ∙ c.if-step_at-eq0.true)

pub returns-then-step_at-eq0-2-clause-is : goal.returns-then-step_at-eq0-2-clause-is
returns-then-step_at-eq0-2-clause-is c = implied_behind _ _ _ _ _ _ _ _ _ c.step_at.ensures.is c.if-step_at-eq0.false c.step_at-2.ensures.is c.if-step_at-eq0-2.true (rw c.args.self.now.shape.behind_terminals at c.behind.ensures.is)

pub returns-clause-is : goal.returns-clause-is
returns-clause-is c = implied_meet _ _ _ _ _ _ _ _ _ c.step_at.ensures.is c.if-step_at-eq0.false c.step_at-2.ensures.is c.if-step_at-eq0-2.false c.meet.ensures.is

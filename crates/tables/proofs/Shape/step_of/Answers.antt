use Rattle.std.proofs.Common.{rules, ℕ, ap, ◌∙◌, Option, unwrap_or}
use Rattle.tables.specs.Writing.{stepping, step_lead, step_none}
use Rattle.tables.proofs.Shape.step_of.Goals as goal

pub returns-then-a-eq0 : goal.returns-then-a-eq0
returns-then-a-eq0 c = search (stepping, rules)

pub returns-then-has : goal.returns-then-has
returns-then-has c =
    step_lead _ _ _ _ _ _ _ _ _ c.if-a-eq0.false (rw c.args.self.behind_terminals at c.has.ensures) c.if-has.true c.from.ensures c.saturating_sub-p.ensures
    (c.unwrap_or.ensures ∙ ap (λ (o : Option ℕ). unwrap_or o 0) c.lead.ensures.first)

pub returns : goal.returns
returns c = step_none _ _ _ _ _ _ c.if-a-eq0.false (rw c.args.self.behind_terminals at c.has.ensures) c.if-has.false

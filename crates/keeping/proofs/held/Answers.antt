use Rattle.keeping.specs.Matched.{slot_none, slot_next}
use Rattle.std.proofs.Common.{sym, ◌∙◌}
use borrow.Author.Rules.{rules}
use Rattle.keeping.proofs.held.Goals as goal

pub returns-in_err-j : goal.returns-in_err-j
returns-in_err-j c = let e = c.in_err-j.ensures in rw c.from_residual.ensures (sym (slot_none _ _ (sym e.0)))

pub returns-in-0 : goal.returns-in-0
returns-in-0 c = let e = c.in_ok-j.ensures in slot_next _ _ _ _ e.0 c.slot_of.ensures.0 ∙ c.in-0.is

pub returns-in_default : goal.returns-in_default
returns-in_default c = let e = c.in_ok-j.ensures in (slot_next _ _ _ _ e.0 c.slot_of.ensures.0, search rules, search rules)

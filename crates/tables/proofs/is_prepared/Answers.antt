use Rattle.std.proofs.Common.{refl, rules}
use Rattle.tables.specs.Outcome.{ready_few, told_tables}
use Rattle.tables.proofs.is_prepared.Goals as goal

pub overflow_add-shape : goal.overflow_add-shape
overflow_add-shape c = let h = ready_few _ _ _ _ c.requires in search rules

pub invariant_of-shape : goal.invariant_of-shape
invariant_of-shape c = let h = ready_few _ _ _ _ c.requires in record { behind_terminals = refl; few_terminals = h.0; few_nonterminals = h.1 }

pub returns : goal.returns
returns c = told_tables _ _ _ _ c.requires _ _ (c.fill.ensures 0 _ (λ i v l h. search rules)) _ _ c.holds.ensures

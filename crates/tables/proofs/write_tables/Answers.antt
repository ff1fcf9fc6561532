use Rattle.std.proofs.Common.{refl, rules}
use Rattle.tables.specs.Outcome.{ready_few, tables_from}
use Rattle.tables.proofs.write_tables.Goals as goal

pub overflow_add-shape : goal.overflow_add-shape
overflow_add-shape c = let h = ready_few _ _ _ _ c.requires.0 in search rules

pub invariant_of-shape : goal.invariant_of-shape
invariant_of-shape c = let h = ready_few _ _ _ _ c.requires.0 in record { behind_terminals = refl; few_terminals = h.0; few_nonterminals = h.1 }

pub returns : goal.returns
returns c = tables_from _ _ _ _ c.requires.0 _ _ (c.fill.ensures 0 _ (λ i v l h. search rules)) _ _ (c.fill-2.ensures 0 _ (λ i v l h. search rules)) _ c.lay.ensures

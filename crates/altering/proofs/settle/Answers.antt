use Rattle.altering.specs.Altering.{small, lists_old, lists_new, one_root, slots_old, fit_then, counts_then, gives_then, laid_spread, laid_fed, settled_all, settled_few}
use Rattle.keeping.specs.Marking.{keeps_few}
use Rattle.std.proofs.Common.{refl}
use borrow.Author.Rules.{rules}
use Rattle.altering.proofs.settle.Goals as goal

pub match_nodes-requires : goal.match_nodes-requires
match_nodes-requires c = let d = c.requires.0 in let x = small d in (lists_old d, lists_new d, one_root d, search rules, search rules, search rules, search rules, search rules, search rules, search rules, search rules)

pub give_slots-kept-requires : goal.give_slots-kept-requires
give_slots-kept-requires c = let d = c.requires.0 in let e = c.match_nodes.ensures in let x = small d in (search rules, search rules, search rules, slots_old d e.0 e.1, fit_then d e.0 e.1 e.2)

pub lay_out-requires : goal.lay_out-requires
lay_out-requires c = let d = c.requires.0 in let e = c.match_nodes.ensures in let x = small d in let g = gives_then d e.0 e.1 e.2 c.give_slots-kept.ensures.0 in (search rules, search rules, search rules, search rules, laid_spread d e.0 e.1 _ g refl, laid_fed d e.0 e.1 _ g refl)

pub returns : goal.returns
returns c = let d = c.requires.0 in let e = c.match_nodes.ensures in let s = c.give_slots-kept.ensures in let g = gives_then d e.0 e.1 e.2 s.0 in let n = counts_then d e.0 e.1 e.2 s.1 in (settled_all d e.0 e.1 _ g refl _ n c.lay_out.ensures, keeps_few n, settled_few d e.0 e.1 _ n)

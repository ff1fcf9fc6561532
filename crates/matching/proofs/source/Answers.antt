use Rattle.matching.specs.Finding.{started_few, source_new, source_beyond, source_found}
use borrow.Author.Rules.{rules}
use Rattle.matching.proofs.source.Goals as goal

pub returns-in_err-u : goal.returns-in_err-u
returns-in_err-u c = rw c.from_residual.ensures (source_new _ _ _ _ _ _ _ _ _ c.in_err-u.ensures)

pub returns-then-sizes-u : goal.returns-then-sizes-u
returns-then-sizes-u c = source_beyond _ _ _ _ _ _ _ _ _ c.in_ok-u.ensures (search rules)

pub start_of-lo-requires : goal.start_of-lo-requires
start_of-lo-requires c = let x = started_few c.requires.1 in search rules

pub start_of-hi-requires : goal.start_of-hi-requires
start_of-hi-requires c = let x = started_few c.requires.1 in search rules

pub returns : goal.returns
returns c = source_found _ _ _ _ _ _ _ _ _ c.requires.1 c.in_ok-u.ensures (search rules) c.start_of-lo.ensures.0 c.start_of-hi.ensures.0 c.find.ensures

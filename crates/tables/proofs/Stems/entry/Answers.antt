use Rattle.tables.specs.Cells.{entry_of}
use Rattle.tables.proofs.Stems.entry.Goals as goal

pub returns : goal.returns
unfolding entry_of
returns c = rw c.args.self.now.shape.behind_terminals at c.point.ensures.is

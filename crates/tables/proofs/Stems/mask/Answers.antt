use Rattle.tables.specs.Cells.{mask_of}
use Rattle.tables.proofs.Stems.mask.Goals as goal

pub returns : goal.returns
unfolding mask_of
returns c = rw c.args.self.now.shape.behind_terminals at c.bits.ensures

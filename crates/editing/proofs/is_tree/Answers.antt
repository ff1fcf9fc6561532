use Rattle.editing.specs.Editing.{tells_tree}
use Rattle.editing.proofs.is_tree.Goals as goal

pub returns : goal.returns
returns c = rw c.is_some.ensures (tells_tree _ c.read_tree.ensures)

use Rattle.walks.specs.Closing.{visited_told}
use Rattle.walks.proofs.closing.all_visited.Goals as goal

pub returns : goal.returns
returns c = visited_told _ _ _ _ c.requires c.same.ensures

use Rattle.trees.specs.Listing.{put_slot}
use borrow.Author.Rules.{rules}
use Rattle.trees.proofs.set_slot.Goals as goal

pub returns : goal.returns
returns c = put_slot _ _ _ _ (search rules) c.put_two.ensures

use Rattle.keeping.specs.Filling.{got_kept, got_made}
use borrow.Author.Rules.{rules}
use Rattle.keeping.proofs.give_one.Goals as goal

pub returns-in-Some : goal.returns-in-Some
returns-in-Some c = let l = rw c.in-Some.is at c.requires.1 in (rw c.in-Some.is (got_kept l.0 c.set_slot.ensures.0), c.set_slot.ensures.1, search rules)

pub returns-in-None : goal.returns-in-None
returns-in-None c = (rw c.in-None.is (got_made c.lowest_free-x.ensures.0 c.set_slot-in-None.ensures.0), c.set_slot-in-None.ensures.1, search rules)

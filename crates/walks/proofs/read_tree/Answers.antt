use Rattle.std.proofs.Common.{rules, refl}
use Rattle.base.specs.Blocks.{zeros}
use Rattle.walks.specs.Closing.{reads_astray, reads_header, reads_told, wandered_few}
use Rattle.walks.specs.Stacked.{marks_part}
use Rattle.walks.proofs.read_tree.Goals as goal

pub fill_words-requires : goal.fill_words-requires
unfolding zeros
fill_words-requires c = refl

pub returns-in_err-found : goal.returns-in_err-found
returns-in_err-found c = rw c.from_residual.ensures (reads_astray c.wander.ensures c.in_err-found.was)

pub heads-requires : goal.heads-requires
heads-requires c = let h = wandered_few c.wander.ensures c.in_ok-found.was in search rules

pub returns-then-not-heads : goal.returns-then-not-heads
returns-then-not-heads c = reads_header c.wander.ensures c.in_ok-found.was (c.heads.ensures.no (search rules))

pub returns : goal.returns
returns c = rw c.then_some.ensures (reads_told c.wander.ensures c.in_ok-found.was (search rules) (search rules) (search rules) (c.heads.ensures.yes (search rules)) _ (marks_part _ _ _ c.marks_at-from.ensures) _ c.all_clear.ensures)

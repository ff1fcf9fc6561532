use Rattle.std.proofs.Common.{refl, ap, ◌∙◌, arith}
use Rattle.base.specs.Blocks.{copied}
use Rattle.replies.specs.Reply.{laid_start, laid_more, laid_all}
use borrow.Author.Rules.{rules}
use Rattle.replies.proofs.write_reply.Goals as goal

-- the place is left to arithmetic, so that what is refused is a wrong value and not another way to say the same
pub loop-size-init : goal.loop-size-init
loop-size-init c = laid_start _ _ _ _ _ _ _ _ _ _ c.counts_of-counts.ensures c.number_of.ensures (omega (arith, c.place_of.ensures)) c.expected_of.ensures c.from.ensures c.from-2.ensures c.from-3.ensures c.from-4.ensures c.from-5.ensures _ refl

pub loop-size-preserved : goal.loop-size-preserved
loop-size-preserved c = laid_more c.loop-size.invariant c.loop-size-test.true _ _ _ _ c.to_le_bytes.ensures c.copy_from_slice.ensures.after (search rules) (search rules)

pub returns : goal.returns
returns c = c.copy.ensures ∙ ap (copied _ 0) (laid_all c.loop-size.invariant c.loop-size-test.false)

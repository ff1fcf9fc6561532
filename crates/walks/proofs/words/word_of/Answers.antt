use Rattle.std.proofs.Common.{refl}
use Rattle.walks.specs.Digits.{tail_none, tail_low, tail_more, tail_all}
use borrow.Author.Rules.{rules}
use Rattle.walks.proofs.words.word_of.Goals as goal

pub loop-j-init : goal.loop-j-init
loop-j-init c = rw c.length_at-j.ensures.0 (tail_none _ _ _)

pub overflow_mul-v : goal.overflow_mul-v
overflow_mul-v c = let h = tail_low _ _ _ _ _ (search rules) c.loop-j.invariant in search rules

pub overflow_add-v : goal.overflow_add-v
overflow_add-v c = let h = tail_low _ _ _ _ _ (search rules) c.loop-j.invariant in search rules

pub overflow_add-v-in-loop-j : goal.overflow_add-v-in-loop-j
overflow_add-v-in-loop-j c = let h = tail_low _ _ _ _ _ (search rules) c.loop-j.invariant in search rules

pub loop-j-preserved : goal.loop-j-preserved
loop-j-preserved c = tail_more _ _ _ _ _ _ (search rules) (search rules) c.symbol_at.ensures.0 (search rules) c.loop-j.invariant

pub overflow_mul-result : goal.overflow_mul-result
overflow_mul-result c = let h = tail_low _ _ _ _ _ (search rules) c.loop-j.invariant in search rules

pub overflow_add-result : goal.overflow_add-result
overflow_add-result c = let h = tail_low _ _ _ _ _ (search rules) c.loop-j.invariant in search rules

pub overflow_add-result-2 : goal.overflow_add-result-2
overflow_add-result-2 c = let h = tail_low _ _ _ _ _ (search rules) c.loop-j.invariant in search rules

pub returns : goal.returns
returns c = tail_all _ _ _ _ _ _ refl (search rules) c.loop-j.invariant c.left_at.ensures.0 (search rules)

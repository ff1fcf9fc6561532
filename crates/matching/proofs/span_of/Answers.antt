use Rattle.matching.specs.Measure.{span_leaf, hop_start, hop_next, hop_end}
use Rattle.std.proofs.Common.{sym, ◌∙◌}
use borrow.Author.Rules.{rules}
use Rattle.matching.proofs.span_of.Goals as goal

pub returns-then-p-eq0 : goal.returns-then-p-eq0
returns-then-p-eq0 c = (span_leaf _ _ _ _ c.requires.0 _ c.requires.1 (sym c.production_of-p.ensures.0 ∙ c.if-p-eq0.true), search rules, search rules)

pub loop-m-init : goal.loop-m-init
loop-m-init c = hop_start _ _ _ _ c.requires.0 _ c.requires.1 _ _ c.production_of-p.ensures.0 c.if-p-eq0.false c.length_at-k.ensures.0

pub loop-m-preserved : goal.loop-m-preserved
loop-m-preserved c = hop_next _ _ _ _ c.requires.0 _ c.requires.1 _ _ _ _ c.loop-m-test.true c.loop-m.invariant c.width_of-width.ensures.0 c.end_of-end.ensures.0 c.requires.3

pub returns : goal.returns
returns c = (hop_end _ _ _ _ c.requires.0 _ c.requires.1 c.loop-m.invariant (search rules), search rules, search rules)

use Rattle.plain.specs.Machine.{few, at_leaf, at_odd, at_none, at_crowded, at_inner, low_row}
use Rattle.std.proofs.Common.{refl, rules}
use Rattle.plain.proofs.Lent.step.Goals as goal

pub overflow_shl-result : goal.overflow_shl-result
overflow_shl-result c = let h = few c.requires.ground in search rules

pub returns-then-x-a : goal.returns-then-x-a
returns-then-x-a c = at_odd c.requires.ground c.requires.more c.requires.on c.from-x.ensures c.byte_at-a.ensures.0 c.if-x-self.true c.if-x-a.true

pub returns-then-x-self : goal.returns-then-x-self
returns-then-x-self c =
    (at_leaf c.requires.ground c.requires.more c.requires.on c.from-x.ensures c.byte_at-a.ensures.0 c.if-x-self.true c.if-x-a.false c.get32-tag.ensures.0 c.put_node.ensures, refl)

pub predicted-requires : goal.predicted-requires
predicted-requires c = low_row c.requires.ground c.requires.more c.requires.on c.from-x.ensures c.byte_at-a.ensures.0 c.if-x-self.false c.byte_at-q.ensures.0

pub returns-then-q-eq0 : goal.returns-then-q-eq0
returns-then-q-eq0 c = at_none c.requires.ground c.requires.more c.requires.on c.from-x.ensures c.byte_at-a.ensures.0 c.if-x-self.false c.byte_at-q.ensures.0 c.if-q-eq0.true c.predicted.ensures

pub returns-then-self-at : goal.returns-then-self-at
returns-then-self-at c = at_crowded c.requires.ground c.requires.more c.requires.on c.from-x.ensures c.byte_at-a.ensures.0 c.if-x-self.false c.byte_at-q.ensures.0 c.if-q-eq0.false (search rules)

pub returns : goal.returns
returns c =
    (at_inner c.requires.ground c.requires.more c.requires.on c.from-x.ensures c.byte_at-a.ensures.0 c.if-x-self.false c.byte_at-q.ensures.0 c.if-q-eq0.false c.length_at-len.ensures.0 (search rules) (search rules) c.push.ensures c.put_node-2.ensures, refl)

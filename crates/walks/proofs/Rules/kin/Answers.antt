use Rattle.std.proofs.Common.{rules, arith}
use Rattle.walks.specs.Judging.{kinds, kin_apart, kin_node}
use Rattle.walks.proofs.Rules.kin.Goals as goal
use Rattle.walks.proofs.Rules.kin.Goals.{then-x-eq0-via-then-x-eq0, then-x-eq0-via-else-x-eq0+then-self-x}

pub returns-then-x-eq0 : goal.returns-then-x-eq0
returns-then-x-eq0 c = elim c.then-x-eq0.branch [ then-x-eq0-via-then-x-eq0 w ↦ search (kinds, rules) | then-x-eq0-via-else-x-eq0+then-self-x w ↦ search (kinds, rules) ]

pub returns-then-p-eq0 : goal.returns-then-p-eq0
returns-then-p-eq0 c = search (kinds, rules)

-- what was found is left to arithmetic, so that a wrong value is refused and not another way to say the same
pub returns-then-found-x : goal.returns-then-found-x
returns-then-found-x c =
    kin_apart _ _ _ _ _ _ _ c.requires.0 c.if-p-eq0.false (search rules) (λ e. c.if-found-x.true (omega (arith, e, c.requires.1, c.requires.2, c.requires.3)))

pub returns : goal.returns
returns c =
    let l = c.if-found-x.false in
    kin_node _ _ _ _ _ _ _ c.requires.0 c.if-p-eq0.false (search rules) (omega (arith, l, c.requires.1, c.requires.2, c.requires.3)) (omega (arith, l, c.requires.1, c.requires.2, c.requires.3))

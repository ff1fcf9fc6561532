use Rattle.std.proofs.Common.{◌+◌, ◌-◌, ◌≡◌, suc, refl, ◌∙◌, arith}
use Rattle.trees.specs.Adopting.{adopted_turn, adopted_end, reach_room, reach_turn}
use Rattle.trees.proofs.adopt.Goals as goal

pub loop-init : goal.loop-init
loop-init c = (reach_room _ _ _ c.requires.1, c.requires.1, refl)

pub loop-preserved : goal.loop-preserved
loop-preserved c =
    let q : c.args.k - c.loop.counter ≡ suc (c.args.k - (c.loop.counter + 1)) = omega arith in
    let r = reach_turn _ _ _ _ _ _ _ q c.hang-s.ensures.0 c.hang-s.ensures.1 c.loop.invariant.1 in
    (reach_room _ _ _ r, r, adopted_turn _ _ _ _ _ _ _ q c.hang-s.ensures.0 c.hang-s.ensures.1 ∙ c.loop.invariant.2)

pub returns : goal.returns
returns c =
    let q : c.args.k - c.loop.counter ≡ 0 = omega arith in
    adopted_end _ _ _ _ _ _ _ _ q c.loop.invariant.2 c.hang-next.ensures.0 c.hang-next.ensures.1 (rw c.from.ensures at c.put_two.ensures)

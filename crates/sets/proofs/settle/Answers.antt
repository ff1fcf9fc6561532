use Rattle.std.proofs.Common.{◌≡◌, true, false, arith}
use Rattle.sets.specs.Words.{swept}
use Rattle.sets.specs.Sweeps.{sweep_all}
use Rattle.sets.specs.Rounds.{rounded_turn, settled_turn, rounds_less}
use Rattle.sets.proofs.settle.Goals as goal
use Rattle.sets.proofs.settle.Goals.{After-front}

-- what the two sweeps came to
back_done : (c : After-front) → c.back.sets ≡ swept c.args.rows.now true c.args.count c.args.count c.rounds.sets
back_done c = sweep_all _ _ _ _ _ _ (omega arith) c.back.invariant.swept

front_done : (c : After-front) → c.front.sets ≡ swept c.args.rows.now false c.args.count c.args.count c.back.sets
front_done c = sweep_all _ _ _ _ _ _ (omega arith) c.front.invariant.swept

pub returns-then-not-grew : goal.returns-then-not-grew
returns-then-not-grew c =
    settled_turn _ _ _ _ _ _ c.rounds.invariant (back_done (goal.at.returns-then-not-grew c).After-front) (front_done (goal.at.returns-then-not-grew c).After-front)
    ((c.front.invariant.grew _ c.back.invariant.grew).still c.if-not-grew.true)

pub rounds-preserved : goal.rounds-preserved
rounds-preserved c = rounded_turn _ _ _ _ _ _ c.rounds.invariant (back_done (goal.at.rounds-preserved c).After-front) (front_done (goal.at.rounds-preserved c).After-front)

pub rounds-smaller : goal.rounds-smaller
rounds-smaller c =
    rounds_less _ _ _ _ _ _ c.rounds.invariant (back_done (goal.at.rounds-smaller c).After-front) (front_done (goal.at.rounds-smaller c).After-front) c.told-sets c.fits-sets
    ((c.front.invariant.grew _ c.back.invariant.grew).more c.if-not-grew.false)

use Rattle.std.proofs.Common.{sym, arith}
use Rattle.tables.specs.Live.{dotted_more, dotted_grid, live_below}
use Rattle.tables.specs.Writing.{implied_none}
use Rattle.tables.proofs.Stems.imply_row.Goals as goal

pub loop-x-preserved : goal.loop-x-preserved
loop-x-preserved c =
    let h = live_below _ _ _ _ _ _ (omega arith) (omega arith) c.loop-x-test.true c.requires.listed in
    dotted_more _ _ _ _ _ _ _ c.from-i.ensures (omega arith) c.implied.ensures.is c.loop-x.invariant

pub returns : goal.returns
returns c =
    dotted_grid _ _ _ _ _ _ _ _ _ (λ i z. sym (implied_none _ _ _ _ _ i z)) (omega arith) (omega arith) c.requires.listed c.requires.quiet c.loop-x.invariant

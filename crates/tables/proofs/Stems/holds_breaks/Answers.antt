use Rattle.std.proofs.Common.{refl, arith, rules}
use Rattle.base.specs.Blocks.{zeros}
use Rattle.tables.specs.Checking.{blank_zeros, quiet_zeros, held_none, blank_more, quiet_more, held_more, held_not, held_all}
use Rattle.tables.proofs.Stems.holds_breaks.Goals as goal

pub loop-r-init : goal.loop-r-init
unfolding zeros
loop-r-init c = record { quiet = quiet_zeros _ _ _ _ 1024 refl; blank = blank_zeros _ _ _ 1024 refl refl; held = held_none _ _ _ _ }

pub loop-r-preserved : goal.loop-r-preserved
loop-r-preserved c =
    let i = c.loop-r.invariant in
    record {
      quiet = quiet_more _ _ _ _ _ _ _ _ _ c.imply_row.ensures;
      blank = blank_more _ _ _ _ _ (omega arith) i.blank c.imply_row.ensures;
      held = held_more _ _ _ _ _ _ _ c.requires (omega arith) (omega arith) (omega arith) i.blank c.imply_row.ensures (c.same.ensures.yes c.if-not-same.false) i.held;
    }

pub returns-then-not-same : goal.returns-then-not-same
returns-then-not-same c =
    held_not _ _ _ _ _ _ _ c.requires (omega arith) (omega arith) (omega arith) c.loop-r.invariant.blank c.imply_row.ensures (c.same.ensures.no c.if-not-same.true)

pub returns : goal.returns
returns c = held_all _ _ _ _ _ _ _ c.requires (omega arith) (omega arith) (omega arith) c.loop-r.invariant.held c.zero_rows.ensures (search rules)

use Rattle.std.proofs.Common.{sym, length-take-le, arith}
use Rattle.tables.specs.Checking.{laid_told, laid_not}
use Rattle.tables.proofs.Stems.holds.Goals as goal

pub slice_bounds-same-end : goal.slice_bounds-same-end
slice_bounds-same-end c = sym (length-take-le 1024 c.args.tables.now (omega arith))

pub returns-then-same : goal.returns-then-same
returns-then-same c = laid_told _ _ _ _ _ _ _ _ c.requires (c.same.ensures.yes c.if-same.true) c.holds_breaks.ensures

pub returns-else-same : goal.returns-else-same
returns-else-same c = rw c.if-same.false (laid_not _ _ _ _ _ c.requires c.told-cells (c.same.ensures.no c.if-same.false))

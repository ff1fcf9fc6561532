use Rattle.std.proofs.Common.{rules}
use Rattle.walks.specs.Judging.{looks_other, looks_once}
use Rattle.walks.proofs.area.Area.looks.Goals as goal

pub returns-then-two-x : goal.returns-then-two-x
returns-then-two-x c =
    looks_once _ _ _ _ _ _ (record { small = c.args.self.known }) (search rules) c.two-then-two-x.ensures.0 c.two-then-two-x.ensures.1 c.two-then-two-x-2.ensures.0 c.two.ensures.0 c.if-two-x.true

pub returns-else-two-x : goal.returns-else-two-x
returns-else-two-x c = looks_other _ _ _ _ (record { small = c.args.self.known }) c.two.ensures.0 c.if-two-x.false

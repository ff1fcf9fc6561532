use Rattle.std.proofs.Common.{◌≡◌, ◌-◌, ◌%◌, ◌/◌, length}
use Rattle.walks.specs.Walking.{Walking}
use Rattle.walks.proofs.wander.Given as goal

abbrev pub invariant-loop-leaves : goal.invariant-loop-leaves
invariant-loop-leaves l =
    (length l.w ≡ length l.initial.w) × Walking l.rules.rows.now l.rules.head l.area.slots l.area.bytes.now l.w l.top l.nodes l.leaves l.due.slot l.due.parent (l.due.symbols % 64) (l.due.symbols / 128)

abbrev pub decreases-loop-leaves : goal.decreases-loop-leaves
decreases-loop-leaves l = l.area.slots - l.nodes

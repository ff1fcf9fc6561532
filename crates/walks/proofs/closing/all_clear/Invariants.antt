use Rattle.std.proofs.Common.{◌+◌, ◌-◌, ◌≤◌, ◌<◌}
use Rattle.std.proofs.Common.{◌≡◌}
use Rattle.std.proofs.Common.{length}
use Rattle.trees.specs.Area.{max_slots, area_size}
use Rattle.walks.specs.Closing.{ClearTo}
use Rattle.walks.proofs.closing.all_clear.Given as goal

abbrev pub invariant-loop-s : goal.invariant-loop-s
invariant-loop-s l = (l.slots ≤ max_slots) × (length l.area ≡ area_size l.slots) × (l.slots < length l.marks) × (1 ≤ l.s) × (l.s ≤ l.slots + 1) × ClearTo l.area l.marks l.s

abbrev pub decreases-loop-s : goal.decreases-loop-s
decreases-loop-s l = l.slots + 1 - l.s

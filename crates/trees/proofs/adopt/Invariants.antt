use Rattle.std.proofs.Common.{◌+◌, ◌-◌, ◌*◌, ◌≤◌, ◌≡◌, length}
use Rattle.trees.specs.Area.{slot_size}
use Rattle.trees.specs.Adopting.{adopted, Reach}
use Rattle.trees.proofs.adopt.Given as goal

abbrev pub invariant-loop : goal.invariant-loop
invariant-loop l = (slot_size * l.s + slot_size ≤ length l.area) × Reach l.area (l.k - l.counter) l.s × (adopted l.parent (l.k - l.counter) l.area l.s ≡ adopted l.parent (l.k - 1) l.initial.area l.initial.s)

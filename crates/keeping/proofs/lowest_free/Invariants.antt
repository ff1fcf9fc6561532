use Rattle.std.proofs.Common.{◌≡◌, ℕ, ◌<◌, ◌≤◌, get_or}
use Rattle.notes.specs.Lists.{marks_of}
use Rattle.keeping.proofs.lowest_free.Given as goal

abbrev pub invariant-loop-x : goal.invariant-loop-x
invariant-loop-x l = (y : ℕ) → l.s ≤ y → y < l.x → get_or (marks_of l.notes) y 0 ≡ 0 → ⊥

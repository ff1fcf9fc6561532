use Rattle.std.proofs.Common.{◌≡◌, ◌-◌, ◌*◌, ◌^◌, List, ℕ, true, false}
use Rattle.sets.specs.Words.{sets_size, word_bits, swept}
use Rattle.sets.specs.Growth.{total}
use Rattle.sets.specs.Sweeps.{Grew}
use Rattle.sets.specs.Rounds.{Rounded}
use Rattle.sets.proofs.settle.Given as goal

abbrev pub invariant-rounds : goal.invariant-rounds
invariant-rounds l = Rounded l.rows l.count l.initial.sets l.sets

abbrev pub decreases-rounds : goal.decreases-rounds
decreases-rounds l = sets_size * 2 ^ word_bits - total l.sets

abbrev pub invariant-back : goal.invariant-back
invariant-back l = record { swept : l.sets ≡ swept l.rows true l.count (l.count - l.p) l.initial.sets; grew : Grew l.initial.sets l.sets l.grew }

-- from whatever sets the round began with
abbrev pub invariant-front : goal.invariant-front
invariant-front l = record { swept : l.sets ≡ swept l.rows false l.count l.p l.initial.sets; grew : (s : List ℕ) → Grew s l.initial.sets l.initial.grew → Grew s l.sets l.grew }

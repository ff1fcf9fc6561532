-- The laws that the proofs of the calls cite: the slots of a tree area, by its length.
use Rattle.std.specs.Prelude.{ℕ, ◌≡◌, Option, Some, None, Result, Ok, Err}
use Rattle.std.specs.Option.{ok_or}
use Rattle.base.specs.Choose.{never}
use Rattle.replies.specs.declared.Reason.{Reason}
use Rattle.replies.specs.declared.Reason.TheVariants.{WrongTree}
use Rattle.calls.specs.Order.{exactly}
use Rattle.calls.specs.Checks.{Sized, area}

-- the slots of an area of this size; none where the size is wrong
abbrev pub Slotted : ℕ → Option ℕ → Type 0
Slotted size (Some S) = Sized S size
Slotted size None = (S : ℕ) → Sized S size → ⊥

-- ---- of an area, or else reply 5
module _ {size : ℕ} {r : Result ℕ Reason} where
  pub area_sized : (o : Option ℕ) → Slotted size o → r ≡ ok_or o WrongTree → (S : ℕ) → r ≡ Ok S → Sized S size
  area_sized (Some T) z e S q = let t : T ≡ S = cc in rw t at z
  area_sized None n e S q = never (cc)

  pub area_wrong : (o : Option ℕ) → Slotted size o → r ≡ ok_or o WrongTree → (p : Reason) → r ≡ Err p
      → (p ≡ WrongTree) × (area size).Fail WrongTree
  area_wrong (Some T) z e p q = never (cc)
  area_wrong None n e p q = (cc, exactly n)

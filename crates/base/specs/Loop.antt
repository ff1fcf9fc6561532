-- One model for every loop that counts up by one, with the four laws that its code's proof cites.
use Prim.Native.Nat.{ℕ, zero, suc, ◌+◌, ◌-◌, ◌≤◌, ◌<◌}
use Rattle.std.specs.Prelude.{◌≡◌}
use Rattle.std.proofs.Math.Path.{sym}
use Rattle.std.proofs.Common.{◌∙◌}
use native.Mathlib.Omega.{arith}

-- what a turn of a loop does: it goes on at a state, or it leaves with a result
pub data Next (S R : Type 0) : Type 0 where
  go : S → Next S R
  leave : R → Next S R

unfoldable pub onward : {S R : Type 0} → (S → R) → Next S R → R
onward k (go y) = k y
onward k (leave r) = r

-- at most f turns from i on, and `fin` of the state where all were taken
unfoldable pub loop : {S R : Type 0} → (ℕ → S → Next S R) → (S → R) → ℕ → ℕ → S → R
loop step fin zero i x = fin x
loop step fin (suc f) i x = onward (λ y. loop step fin f (i + 1) y) (step i x)

-- the invariant of a loop of n turns says that the run from here is the whole run, X
module _ {S R : Type 0} (X : R) (step : ℕ → S → Next S R) (fin : S → R) (n i : ℕ) (x : S) (inv : X ≡ loop step fin (n - i) i x) where
  opened : i < n → X ≡ onward (λ y. loop step fin (n - (i + 1)) (i + 1) y) (step i x)
  unfolding loop
  opened l = let q : n - i ≡ suc (n - (i + 1)) = omega arith in rw q at inv

  pub loop_again : (y : S) → i < n → go y ≡ step i x → X ≡ loop step fin (n - (i + 1)) (i + 1) y
  unfolding onward
  loop_again y l e = rw (← e) at (opened l)

  pub loop_left : (r : R) → i < n → leave r ≡ step i x → r ≡ X
  unfolding onward
  loop_left r l e = sym (rw (← e) at (opened l))

  pub loop_done : (r : R) → n ≤ i → r ≡ fin x → r ≡ X
  unfolding loop
  loop_done r l e = let q : n - i ≡ 0 = omega arith in e ∙ sym (rw q at inv)

pub loop_start : {S R : Type 0} (step : ℕ → S → Next S R) (fin : S → R) (n : ℕ) (x : S) → loop step fin n 0 x ≡ loop step fin (n - 0) 0 x
loop_start step fin n x = let q : n - 0 ≡ n = omega arith in rw q

pub ruleset loops = (loop_start, loop_again, loop_left, loop_done)

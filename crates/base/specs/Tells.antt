-- What a function that answers a bool promises: its answer is true exactly if a statement holds.
use Rattle.std.specs.Prelude.{Bool, true, false, ◌≡◌, ℕ}
use Rattle.std.proofs.Common.{arith}

-- r tells whether P holds
pub record Tells (P : Type 0) (r : Bool) : Type 0 where
  pub yes : r ≡ true → P
  pub no : r ≡ false → P → ⊥

pub tells_yes : {P : Type 0} → P → Tells P true
tells_yes p = record { yes = λ _. p; no = λ e _. let z : ◌≡◌ {A = ℕ} 0 1 = cc in omega arith }

pub tells_no : {P : Type 0} → (P → ⊥) → Tells P false
tells_no n = record { yes = λ e. absurd (let z : ◌≡◌ {A = ℕ} 0 1 = cc in omega arith); no = λ _. n }

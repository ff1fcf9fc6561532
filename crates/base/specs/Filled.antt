-- Tables written cell by cell: the cells of a run hold a function's values, and the others are as they were.
use Rattle.std.specs.Prelude.{ℕ, ◌+◌, ◌≤◌, ◌<◌, ◌≡◌, refl, List, length, get_or, set}
use Rattle.std.proofs.Common.{◌∙◌, length-set, get_or-set_same, get_or-set_other, arith}
use Rattle.std.proofs.Math.Logic.{by_cases}
use Rattle.std.proofs.Math.Decide.{ℕ_discrete}

-- k cells from `at` on hold f; w' is else as w was
pub record Filled (f : ℕ → ℕ) (at k : ℕ) (w w' : List ℕ) : Type 0 where
  pub long : length w' ≡ length w
  pub inside : (i : ℕ) → i < k → get_or w' (at + i) 0 ≡ f i
  pub before : (j : ℕ) → j < at → get_or w' j 0 ≡ get_or w j 0
  pub behind : (j : ℕ) → at + k ≤ j → get_or w' j 0 ≡ get_or w j 0

module _ (f : ℕ → ℕ) (at : ℕ) (w : List ℕ) where
  pub filled_none : Filled f at 0 w w
  filled_none = record { long = refl; inside = λ i l. absurd (omega arith); before = λ j l. refl; behind = λ j l. refl }

  pub filled_more : (w' : List ℕ) (k v : ℕ) → at + k < length w' → v ≡ f k → Filled f at k w w' → Filled f at (k + 1) w (set w' (at + k) v)
  filled_more w' k v l e h =
      record {
        long = simp length-set h.long;
        inside = λ i m. by_cases (ℕ_discrete i k) (λ q. rw (q, get_or-set_same w' (at + k) v 0 l) e)
            (λ q. get_or-set_other w' (at + k) (at + i) v 0 (omega arith) ∙ h.inside i (omega arith));
        before = λ j m. get_or-set_other w' (at + k) j v 0 (omega arith) ∙ h.before j m;
        behind = λ j m. get_or-set_other w' (at + k) j v 0 (omega arith) ∙ h.behind j (omega arith);
      }

-- The words of the productions: the left side and the body of each as one number, at the production's number.
use Rattle.std.specs.Prelude.{ℕ, suc, ◌≤◌, ◌<◌, ◌≡◌, List, ◌∷◌, get_or}
use Rattle.std.proofs.Common.{ap, ◌∙◌, arith}
use Rattle.base.specs.Blocks.{zeros, byte_zeros}
use Rattle.grammar.specs.Rows.{left_at}
use Rattle.grammar.specs.RowRules.{body_at}
use Rattle.walks.specs.Digits.{Digits}

-- what a byte can number
abbrev pub word_count : ℕ
word_count = 256

-- the words of `count` productions
pub record Worded (rows : List ℕ) (count : ℕ) (ws : List ℕ) : Type 0 where
  pub row : (q : ℕ) → q < count → suc q < word_count → Digits (left_at rows q ∷ body_at rows q) (get_or ws (suc q) 0)
  pub none : (q : ℕ) → count ≤ q → suc q < word_count → get_or ws (suc q) 0 ≡ 0

pub worded_none : (rows ws : List ℕ) (k : ℕ) → ws ≡ zeros k → Worded rows 0 ws
worded_none rows ws k e = record { row = λ q l m. absurd (omega arith); none = λ q l m. ap (λ (u : List ℕ). get_or u (suc q) 0) e ∙ byte_zeros k (suc q) }

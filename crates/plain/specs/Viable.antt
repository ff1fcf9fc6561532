-- Meaning: viable beginnings of a sentence, and the longest of them.
use Rattle.std.specs.Prelude.{ℕ, ◌≤◌, ◌≡◌, List, ◌++◌, length}
use Rattle.grammar.specs.Grammar.{Grammar}
use Rattle.grammar.specs.Forest.{Token, Tree}

-- the tokens begin some sentence of the language
pub record Viable (G : Grammar) (u : List Token) : Type 0 where
  pub rest : List Token
  pub tree : Tree G G.start (u ++ rest)

-- the longest beginning of w that is viable has i tokens
pub record Longest (G : Grammar) (w : List Token) (i : ℕ) : Type 0 where
  pub beginning : List Token
  pub rest : List Token
  pub is : w ≡ beginning ++ rest
  pub tokens : length beginning ≡ i
  pub viable : Viable G beginning
  pub longest : (u v : List Token) → w ≡ u ++ v → Viable G u → length u ≤ i

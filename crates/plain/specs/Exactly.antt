-- Meaning: a derivation tree that fits the slots.
use Rattle.std.specs.Prelude.{ℕ, ◌≤◌, ◌≡◌, List}
use Rattle.grammar.specs.Grammar.{Grammar}
use Rattle.grammar.specs.Forest.{Token, size, Tree}

-- a derivation tree of the sentence, of n nodes, that fits S slots
pub record Fitting (G : Grammar) (S : ℕ) (w : List Token) (n : ℕ) : Type 0 where
  pub tree : Tree G G.start w
  pub nodes : size tree.tree ≡ n
  pub fits : n ≤ S

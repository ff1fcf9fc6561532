-- Derivation trees, shaped as the tree area is: a node's first child, and its next sibling. A list of such trees is a forest.
use Rattle.std.specs.Prelude.{ℕ, suc, ◌+◌, ◌≡◌, List, [], ◌∷◌, ◌++◌}
use Rattle.grammar.specs.Grammar.{Grammar, Rule, Terminal}

-- "A token is [..] kind 1..t, then a 32-bit tag that is carried and never interpreted"
pub record Token : Type 0 where
  pub kind : ℕ
  pub tag : ℕ

abbrev pub kinds : List Token → List ℕ
kinds [] = []
kinds (k ∷ w) = k.kind ∷ kinds w

-- a leaf has a slot, a terminal and a tag; a node a slot, a nonterminal, a production and its children; `rest` is what stands behind it
pub data Forest : Type 0 where
  nil : Forest
  leaf : (slot symbol tag : ℕ) (rest : Forest) → Forest
  node : (slot symbol production : ℕ) (children rest : Forest) → Forest

-- the number of nodes, leaves among them
abbrev pub size : Forest → ℕ
size nil = 0
size (leaf s a g r) = suc (size r)
size (node s M p k r) = suc (size k + size r)

-- the tokens, from left to right
abbrev pub yield : Forest → List Token
yield nil = []
yield (leaf s a g r) = record { kind = a; tag = g } ∷ yield r
yield (node s M p k r) = yield k ++ yield r

-- the forest's trees derive the symbols, one each; slots and tags are free
pub data Derives (G : Grammar) : List ℕ → Forest → Type 0 where
  nil : Derives G [] Forest.nil
  leaf : {s a g : ℕ} {xs : List ℕ} {r : Forest} → Terminal G a → Derives G xs r → Derives G (a ∷ xs) (Forest.leaf s a g r)
  node : {s M p : ℕ} {γ xs : List ℕ} {k r : Forest} → Rule G p M γ → Derives G γ k → Derives G xs r
      → Derives G (M ∷ xs) (Forest.node s M p k r)

-- a derivation tree of X with yield w
pub record Tree (G : Grammar) (X : ℕ) (w : List Token) : Type 0 where
  pub tree : Forest
  pub derives : Derives G (X ∷ []) tree
  pub yields : yield tree ≡ w

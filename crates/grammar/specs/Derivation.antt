-- Derivation by rewriting, and what document 01 says by it of a grammar's symbols: "FIRST and FOLLOW as usual", which nonterminals are useless.
-- A step asks only for a production; that left sides are nonterminals is `WellFormed`'s business.
use Rattle.std.specs.Prelude.{◌⊎◌, ℕ, ◌<◌, List, [], ◌∷◌, ◌++◌}
use Rattle.grammar.specs.Limits.{end_mark}
use Rattle.grammar.specs.Each.{Each}
use Rattle.grammar.specs.Grammar.{Grammar, Rule, Terminal, Nonterminal}

-- one step, α M β ⇒ α γ β by a production M → γ
pub data Step (G : Grammar) : List ℕ → List ℕ → Type 0 where
  at : (α β : List ℕ) {p M : ℕ} {γ : List ℕ} → Rule G p M γ → Step G (α ++ M ∷ β) (α ++ (γ ++ β))

-- any number of steps, ⇒*
pub data Steps (G : Grammar) : List ℕ → List ℕ → Type 0 where
  stop : {xs : List ℕ} → Steps G xs xs
  then : {xs ys zs : List ℕ} → Step G xs ys → Steps G ys zs → Steps G xs zs

-- the symbols may derive nothing
abbrev pub Nullable : Grammar → List ℕ → Type 0
Nullable G xs = Steps G xs []

-- FIRST: the terminal a begins a string that the symbols derive
abbrev pub First : Grammar → ℕ → List ℕ → Type 0
First G a xs = Terminal G a × ((β : List ℕ) × Steps G xs (a ∷ β))

-- FOLLOW: the terminal a stands behind M in a string that the start symbol derives;
-- the end mark, where M ends such a string. "FOLLOW of the start symbol also holds the end mark": no step is taken
pub data Follow (G : Grammar) (M : ℕ) : ℕ → Type 0 where
  inside : {a : ℕ} (α β : List ℕ) → Terminal G a → Steps G (G.start ∷ []) (α ++ M ∷ a ∷ β) → Follow G M a
  ending : (α : List ℕ) → Steps G (G.start ∷ []) (α ++ M ∷ []) → Follow G M end_mark

-- X derives a "terminal string (the empty one counts)"
abbrev pub Productive : Grammar → ℕ → Type 0
Productive G X = (w : List ℕ) × Each (Terminal G) w × Steps G (X ∷ []) w

-- some "string derived from the start holds" X
abbrev pub Reachable : Grammar → ℕ → Type 0
Reachable G X = (α β : List ℕ) × Steps G (G.start ∷ []) (α ++ X ∷ β)

-- reply 2: "a nonterminal derives no terminal string [..], or no string derived from the start holds it"
pub record Useless (G : Grammar) (M : ℕ) : Type 0 where
  pub nonterminal : Nonterminal G M
  pub fault : (Productive G M → ⊥) ⊎ (Reachable G M → ⊥)

-- a reply's place: the lowest number of which P holds
pub record Lowest (P : ℕ → Type 0) (M : ℕ) : Type 0 where
  pub holds : P M
  pub first : (N : ℕ) → N < M → P N → ⊥

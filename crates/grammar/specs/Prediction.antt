-- Predictors, LL(1), stems and break points. Document 01, "Sets and tables".
use Rattle.std.specs.Prelude.{◌≡◌, ℕ}
use mathlib.Core.List.{List, [], ◌∷◌, ◌++◌, Memᴰ}
use Rattle.grammar.specs.Grammar.{Grammar, Rule, Terminal, WellFormed}
use Rattle.grammar.specs.Derivation.{Nullable, First, Follow, Useless}

-- "A production is predicted by FIRST of its body, and by FOLLOW of its left side if the body may derive nothing":
-- the lookahead a predicts production p, whose left side is M
pub data Predicts (G : Grammar) (M a p : ℕ) : Type 0 where
  by_first : {γ : List ℕ} → Rule G p M γ → First G a γ → Predicts G M a p
  by_follow : {γ : List ℕ} → Rule G p M γ → Nullable G γ → Follow G M a → Predicts G M a p

-- reply 3: two productions of M share a predictor
pub record Conflict (G : Grammar) (M : ℕ) : Type 0 where
  pub lookahead : ℕ
  pub one : ℕ
  pub other : ℕ
  pub differ : one ≡ other → ⊥
  pub predicted : Predicts G M lookahead one
  pub too : Predicts G M lookahead other

-- "A grammar is LL(1) if no two productions of one nonterminal share a predictor"
abbrev pub LL1 : Grammar → Type 0
LL1 G = (M : ℕ) → Conflict G M → ⊥

-- "The stem from M to a, where a is in FIRST(M), is the path of symbols from M down to the leftmost a, and ends with a itself":
-- below M stands a symbol of one of its bodies with nothing before it but what may derive nothing. `Stem G a M s`: s is the stem from M to a
pub data Stem (G : Grammar) (a : ℕ) : ℕ → List ℕ → Type 0 where
  ends : Terminal G a → Stem G a a (a ∷ [])
  down : {p M x : ℕ} {s : List ℕ} (α β : List ℕ) → Rule G p M (α ++ x ∷ β) → Nullable G α → Stem G a x s → Stem G a M (M ∷ s)

-- x is the highest symbol of the stem s that is also on the stem s'
pub record Highest (x : ℕ) (s s' : List ℕ) : Type 0 where
  pub above : List ℕ
  pub below : List ℕ
  pub is : s ≡ above ++ x ∷ below
  pub shared : Memᴰ x s'
  pub first : (y : ℕ) → Memᴰ y above → Memᴰ y s' → ⊥

-- the entry where M is expected and a can't come
abbrev pub no_break : ℕ
no_break = 255

-- of nonterminals M and N: "Break point [M, N, a]: 0 if a is not in FIRST(N). Else, if a is in FIRST(M), the highest symbol on both stems, which may be a.
-- Else N if M may derive nothing and a is in FOLLOW(M). Else 255."
pub data Break (G : Grammar) (M N a : ℕ) : ℕ → Type 0 where
  not_first : (First G a (N ∷ []) → ⊥) → Break G M N a 0
  both_first : {x : ℕ} {s s' : List ℕ} → First G a (N ∷ []) → First G a (M ∷ []) → Stem G a M s → Stem G a N s' → Highest x s s' → Break G M N a x
  may_vanish : First G a (N ∷ []) → (First G a (M ∷ []) → ⊥) → Nullable G (M ∷ []) → Follow G M a → Break G M N a N
  no_break_lem : First G a (N ∷ []) → (First G a (M ∷ []) → ⊥) → (Nullable G (M ∷ []) → Follow G M a → ⊥) → Break G M N a no_break

-- demand 2: "A grammar is prepared exactly when it is well formed, has no useless nonterminal and is LL(1)"
pub record Prepared (G : Grammar) : Type 0 where
  pub formed : WellFormed G
  pub useful : (M : ℕ) → Useless G M → ⊥
  pub ll1 : LL1 G

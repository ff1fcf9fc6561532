-- The plain parse, step by step. Document 01, "The plain parse".
use Rattle.std.specs.Prelude.{ℕ, suc, ◌+◌, ◌^◌, ◌≤◌, ◌<◌, ◌≡◌, List, [], ◌∷◌, ◌++◌, length}
use Rattle.base.specs.Bits.{Has}
use Rattle.grammar.specs.Limits.{end_mark, columns}
use Rattle.grammar.specs.Grammar.{Grammar, Rule, Terminal}
use Rattle.grammar.specs.Prediction.{Predicts}
use Rattle.grammar.specs.Forest.{Token}

-- the kind that the tokens begin with; a, if there are none
abbrev pub front : List Token → ℕ → ℕ
front [] a = a
front (k ∷ w) a = k.kind

-- the lookahead: "0 is the end of the sentence"
abbrev pub ahead : List Token → ℕ
ahead w = front w end_mark

-- with these symbols left, the next one first, the parse can go on with the lookahead a:
-- "bit a for each lookahead with a prediction for M; only M's bit if M is a terminal; only bit 0 if nothing is left"
pub data Expects (G : Grammar) : List ℕ → ℕ → Type 0 where
  prediction : {M a p : ℕ} {xs : List ℕ} → Predicts G M a p → Expects G (M ∷ xs) a
  itself : {a : ℕ} {xs : List ℕ} → Terminal G a → Expects G (a ∷ xs) a
  end : Expects G [] end_mark

-- the expected set as a number, one bit for each lookahead
pub record Expected (G : Grammar) (xs : List ℕ) (e : ℕ) : Type 0 where
  pub small : e < 2 ^ columns
  pub all : (a : ℕ) → Expects G xs a → Has e a
  pub only : (a : ℕ) → Has e a → Expects G xs a

-- how a parse ends: reply 0 with the number of nodes, reply 9 with its place and expected set, or reply 10
pub data Verdict : Type 0 where
  accepted : (nodes : ℕ) → Verdict
  syntax : (token expected : ℕ) → Verdict
  out_of_room : Verdict

-- a parse with these symbols left, these tokens left, c nodes so far, and i tokens matched ends so, in S slots
pub data Runs (G : Grammar) (S : ℕ) : List ℕ → List Token → ℕ → ℕ → Verdict → Type 0 where
  -- "no symbols left and lookahead 0 accepts"
  accepts : {c i : ℕ} → Runs G S [] [] c i (accepted c)
  -- "a terminal M equal to a is matched"
  matches : {M c i : ℕ} {k : Token} {xs : List ℕ} {w : List Token} {v : Verdict} → Terminal G M → M ≡ k.kind
      → Runs G S xs w c (suc i) v → Runs G S (M ∷ xs) (k ∷ w) c i v
  -- "a predicted production replaces M by its body and adds one node per body symbol"
  expands : {M p c i : ℕ} {γ xs : List ℕ} {w : List Token} {v : Verdict} → Predicts G M (ahead w) p → Rule G p M γ → c + length γ ≤ S
      → Runs G S (γ ++ xs) w (c + length γ) i v → Runs G S (M ∷ xs) w c i v
  -- "If an expansion would bring the count above S, reply 10"
  crowded : {M p c i : ℕ} {γ xs : List ℕ} {w : List Token} → Predicts G M (ahead w) p → Rule G p M γ → S < c + length γ
      → Runs G S (M ∷ xs) w c i out_of_room
  -- "Otherwise reply 9"
  stuck : {c i e : ℕ} {xs : List ℕ} {w : List Token} → (Expects G xs (ahead w) → ⊥) → Expected G xs e → Runs G S xs w c i (syntax i e)

-- "Begin with the start symbol, one node"
abbrev pub Parses : Grammar → ℕ → List Token → Verdict → Type 0
Parses G S w v = Runs G S (G.start ∷ []) w 1 0 v

-- Grammars, their symbols and productions, and which grammars are within document 01's limits.
use Rattle.std.specs.Prelude.{◌≡◌, ℕ, zero, suc, ◌+◌, ◌≤◌, ◌<◌, List, [], ◌∷◌, ◌++◌, length}
use Rattle.std.proofs.Math.Option.{Option, none, some}
use Rattle.grammar.specs.Limits.{max_terminals, max_nonterminals, max_productions, max_body}
use Rattle.grammar.specs.Each.{Each}

-- a left side and a body
pub record Production : Type 0 where
  pub left : ℕ
  pub body : List ℕ

-- t terminals, n nonterminals, the start symbol, and the productions in their order
pub record Grammar : Type 0 where
  pub t : ℕ
  pub n : ℕ
  pub start : ℕ
  pub productions : List Production

-- "Terminals are 1..t, nonterminals t+1..t+n"
abbrev pub TerminalOf : ℕ → ℕ → Type 0
TerminalOf t a = (1 ≤ a) × (a ≤ t)

abbrev pub NonterminalOf : ℕ → ℕ → ℕ → Type 0
NonterminalOf t n M = (t < M) × (M ≤ t + n)

-- "body symbols 1..t+n"
abbrev pub SymbolOf : ℕ → ℕ → ℕ → Type 0
SymbolOf t n x = (1 ≤ x) × (x ≤ t + n)

abbrev pub Terminal : Grammar → ℕ → Type 0
Terminal G a = TerminalOf G.t a

abbrev pub Nonterminal : Grammar → ℕ → Type 0
Nonterminal G M = NonterminalOf G.t G.n M

-- "t is 1..31, n is 1..32", "start [..] must be" a nonterminal
pub record AllowedHead (t n s : ℕ) : Type 0 where
  pub terminals : (1 ≤ t) × (t ≤ max_terminals)
  pub nonterminals : (1 ≤ n) × (n ≤ max_nonterminals)
  pub start : NonterminalOf t n s

-- "left sides must be nonterminals, body symbols 1..t+n", "body length 0..8"
pub record Allowed (t n : ℕ) (P : Production) : Type 0 where
  pub left : NonterminalOf t n P.left
  pub short : length P.body ≤ max_body
  pub symbols : Each (SymbolOf t n) P.body

-- a grammar none of whose records is bad
pub record WellFormed (G : Grammar) : Type 0 where
  pub head : AllowedHead G.t G.n G.start
  pub few : length G.productions ≤ max_productions
  pub each : Each (Allowed G.t G.n) G.productions

-- "Productions are numbered from 1"
abbrev pub numbered : List Production → ℕ → Option Production
numbered [] p = none
numbered (P ∷ Ps) zero = none
numbered (P ∷ Ps) (suc zero) = some P
numbered (P ∷ Ps) (suc (suc p)) = numbered Ps (suc p)

-- production p of G is M → γ
pub record Rule (G : Grammar) (p M : ℕ) (γ : List ℕ) : Type 0 where
  pub found : numbered G.productions p ≡ some (record { left = M; body = γ })

-- G with one production more, behind the others
abbrev pub extended : Grammar → Production → Grammar
extended G P = record { t = G.t; n = G.n; start = G.start; productions = G.productions ++ (P ∷ []) }

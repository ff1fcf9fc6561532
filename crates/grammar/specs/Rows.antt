-- How the reader leaves the productions for later code: rows of fixed width, each a left side, a body length, the body, and zeros.
-- A row is read without trusting it, so that any bytes are the rows of some grammar; the rows of a grammar within the limits, with its head and count, hold that grammar.
use Rattle.std.specs.Prelude.{◌≡◌, refl, take, drop}
use Rattle.std.proofs.Math.Path.{ap, sym}
use Rattle.std.proofs.Common.{◌∙◌, drop_of_length-le, take_at, drop_at, get_or-take, get_or-drop, drop-drop}
use Prim.Native.Nat.{ℕ, zero, suc, ◌+◌, ◌-◌, ◌*◌, ◌/◌, ◌%◌, ◌≤◌, ◌<◌}
use mathlib.Core.List.{List, [], ◌∷◌, ◌++◌, append_assoc, append-nil}
use Rattle.std.proofs.Math.ListN.{length, replicate, get_or, length-append, length-take, get_or-eq_default}
use Rattle.std.proofs.Math.Seq.{append_snoc}
use native.Mathlib.Omega.{arith}
use Rattle.base.specs.Blocks.{zeros, length_zeros, zeros_append, copied, copied_zeros}
use Rattle.grammar.specs.Limits.{max_terminals, max_nonterminals, max_productions, max_body}
use Rattle.grammar.specs.Each.{Each, each_join}
use Rattle.grammar.specs.Grammar.{Production, Grammar, SymbolOf, Allowed, WellFormed}
use Rattle.grammar.specs.declared.Head.{Head}

-- a left side, a length and a body
abbrev pub row_size : ℕ
row_size = 2 + max_body

abbrev pub rows_size : ℕ
rows_size = max_productions * row_size

-- one more than the highest symbol
abbrev pub symbol_space : ℕ
symbol_space = 1 + max_terminals + max_nonterminals

-- one more than the longest body
abbrev pub body_space : ℕ
body_space = 1 + max_body

-- what `fill` leaves of an array whose length is known
pub zeros_filled : (w : List ℕ) (m n : ℕ) → w ≡ replicate m 0 → m ≡ n → w ≡ zeros n
unfolding zeros
zeros_filled w m n e l = e ∙ ap (λ (k : ℕ). replicate k 0) l

-- ---- the rows of productions

abbrev pub row_of : Production → List ℕ
row_of P = P.left ∷ length P.body ∷ P.body ++ zeros (max_body - length P.body)

abbrev pub rows_bytes : List Production → List ℕ
rows_bytes [] = []
rows_bytes (P ∷ Ps) = row_of P ++ rows_bytes Ps

unfoldable pub rows_of : List Production → List ℕ
rows_of Ps = rows_bytes Ps ++ zeros (rows_size - length Ps * row_size)

-- ---- the grammar in rows

abbrev pub row_at : List ℕ → ℕ → List ℕ
row_at rows p = take row_size (drop (p * row_size) rows)

-- of the production in row p, counted from 0: left side, length of the body, symbol j of the body
unfoldable pub left_at : List ℕ → ℕ → ℕ
left_at rows p = get_or (row_at rows p) 0 0 % symbol_space

unfoldable pub length_at : List ℕ → ℕ → ℕ
length_at rows p = get_or (row_at rows p) 1 0 % body_space

unfoldable pub symbol_at : List ℕ → ℕ → ℕ → ℕ
symbol_at rows p j = get_or (row_at rows p) (2 + j) 0 % symbol_space

-- k symbols of row p from symbol j on
abbrev pub symbols_from : List ℕ → ℕ → ℕ → ℕ → List ℕ
symbols_from rows p zero j = []
symbols_from rows p (suc k) j = symbol_at rows p j ∷ symbols_from rows p k (j + 1)

abbrev pub production_at : List ℕ → ℕ → Production
production_at rows p = record { left = left_at rows p; body = symbols_from rows p (length_at rows p) 0 }

-- k productions from row p on
abbrev pub productions_from : List ℕ → ℕ → ℕ → List Production
productions_from rows zero p = []
productions_from rows (suc k) p = production_at rows p ∷ productions_from rows k (p + 1)

-- the grammar of a head and its rows
unfoldable pub grammar_in : List ℕ → Head → Grammar
grammar_in rows head = record { t = head.t; n = head.n; start = head.start; productions = productions_from rows head.count 0 }

-- a grammar's head
abbrev pub head_of : Grammar → Head
head_of G = record { t = G.t; n = G.n; start = G.start; count = length G.productions }

-- ---- a row as the reader writes it: what stands in a record behind its mark, onto zeros

pub length_row : (P : Production) → length P.body ≤ max_body → length (row_of P) ≡ row_size
length_row P l = omega (arith, length-append P.body (zeros (max_body - length P.body)), length_zeros (max_body - length P.body))

pub length_rows : {t n : ℕ} (Ps : List Production) → Each (Allowed t n) Ps → length (rows_bytes Ps) ≡ length Ps * row_size
length_rows [] e = refl
length_rows (P ∷ Ps) (Each.cons a e) = omega (arith, length-append (row_of P) (rows_bytes Ps), length_row P a.short, length_rows Ps e)

pub length_rows_of : {t n : ℕ} (Ps : List Production) → Each (Allowed t n) Ps → length Ps ≤ max_productions → length (rows_of Ps) ≡ rows_size
unfolding rows_of
length_rows_of Ps e l =
    omega (arith, length-append (rows_bytes Ps) (zeros (rows_size - length Ps * row_size)), length_rows Ps e, length_zeros (rows_size - length Ps * row_size))

rows_append : (Ps Qs : List Production) → rows_bytes (Ps ++ Qs) ≡ rows_bytes Ps ++ rows_bytes Qs
rows_append [] Qs = refl
rows_append (P ∷ Ps) Qs = ap (λ (l : List ℕ). row_of P ++ l) (rows_append Ps Qs) ∙ sym (append_assoc (row_of P) (rows_bytes Ps) (rows_bytes Qs))

pub rows_none : zeros rows_size ≡ rows_of []
unfolding rows_of
rows_none = refl

module _ {t n : ℕ} (Ps : List Production) (each : Each (Allowed t n) Ps) (P : Production) (short : length P.body ≤ max_body) (room : length Ps < max_productions) where
  -- what a row leaves of the zeros
  row_zeros : (u : List ℕ) (k : ℕ) → row_size ≤ k
      → u ++ (P.left ∷ length P.body ∷ P.body) ++ zeros (k - length (P.left ∷ length P.body ∷ P.body)) ≡ (u ++ row_of P) ++ zeros (k - row_size)
  row_zeros u k l =
      let q : k - length (P.left ∷ length P.body ∷ P.body) ≡ max_body - length P.body + (k - row_size) = omega arith in
      rw (q, ← zeros_append (max_body - length P.body) (k - row_size)) (simp append_assoc)

  pub rows_more : copied (rows_of Ps) (length Ps * row_size) (P.left ∷ length P.body ∷ P.body) ≡ rows_of (Ps ++ (P ∷ []))
  unfolding rows_of
  rows_more =
      let k : ℕ = rows_size - length Ps * row_size in
      let at : length (rows_bytes Ps) ≡ length Ps * row_size = length_rows Ps each in
      let q : rows_size - length (Ps ++ (P ∷ [])) * row_size ≡ k - row_size = omega (arith, length-append Ps (P ∷ [])) in
      ap (λ (j : ℕ). copied (rows_bytes Ps ++ zeros k) j (P.left ∷ length P.body ∷ P.body)) (sym at)
      ∙ copied_zeros (rows_bytes Ps) (P.left ∷ length P.body ∷ P.body) k (omega arith)
      ∙ row_zeros (rows_bytes Ps) k (omega arith)
      ∙ rw (q, rows_append Ps (P ∷ []), append-nil (row_of P))

-- ---- the rows of a grammar within the limits hold that grammar

symbols_in : (t n : ℕ) (rows : List ℕ) (p j : ℕ) (xs zs : List ℕ) → t + n < symbol_space → Each (SymbolOf t n) xs
    → drop (2 + j) (row_at rows p) ≡ xs ++ zs → symbols_from rows p (length xs) j ≡ xs
unfolding symbol_at
symbols_in t n rows p j [] zs l e h = refl
symbols_in t n rows p j (x ∷ xs) zs l (Each.cons s e) h = λ i. first i ∷ symbols_in t n rows p (j + 1) xs zs l e next i
  where
    here : get_or (row_at rows p) (2 + j) 0 ≡ x
    here =
        let q : 2 + j ≡ 2 + j + 0 = omega arith in
        ap (λ (k : ℕ). get_or (row_at rows p) k 0) q ∙ sym (get_or-drop (2 + j) (row_at rows p) 0 0) ∙ ap (λ (u : List ℕ). get_or u 0 0) h

    first : symbol_at rows p j ≡ x
    first = omega (arith, here, s.1)

    next : drop (2 + (j + 1)) (row_at rows p) ≡ xs ++ zs
    next =
        let q : 2 + (j + 1) ≡ 2 + j + 1 = omega arith in
        ap (λ (k : ℕ). drop k (row_at rows p)) q ∙ sym (drop-drop 1 (2 + j) (row_at rows p)) ∙ ap (drop 1) h

module _ {t n : ℕ} (small : t + n < symbol_space) where
  production_in_lem : (rows : List ℕ) (p : ℕ) (P : Production) → Allowed t n P → row_at rows p ≡ row_of P → production_at rows p ≡ P
  unfolding left_at length_at
  production_in_lem rows p P a e = λ i. record { left = lefts i; body = bodies i }
    where
      lefts : left_at rows p ≡ P.left
      lefts = omega (arith, ap (λ (r : List ℕ). get_or r 0 0) e, a.left.1)

      long : length_at rows p ≡ length P.body
      long = omega (arith, ap (λ (r : List ℕ). get_or r 1 0) e, a.short)

      bodies : symbols_from rows p (length_at rows p) 0 ≡ P.body
      bodies =
          ap (λ (k : ℕ). symbols_from rows p k 0) long
          ∙ symbols_in t n rows p 0 P.body (zeros (max_body - length P.body)) small a.symbols (ap (drop 2) e)

  row_in : (Qs : List Production) (P : Production) (more : List Production) (zs : List ℕ) → Each (Allowed t n) Qs → Allowed t n P
      → row_at (rows_bytes (Qs ++ P ∷ more) ++ zs) (length Qs) ≡ row_of P
  row_in Qs P more zs q a =
      rw (rows_append Qs (P ∷ more), append_assoc (rows_bytes Qs) (rows_bytes (P ∷ more)) zs)
      (ap (take row_size) (drop_at (rows_bytes Qs) (rows_bytes (P ∷ more) ++ zs) (length Qs * row_size) (length_rows Qs q))
      ∙ ap (take row_size) (append_assoc (row_of P) (rows_bytes more) zs)
      ∙ take_at (row_of P) (rows_bytes more ++ zs) row_size (length_row P a.short))

  productions_in : (Qs more : List Production) (zs : List ℕ) → Each (Allowed t n) Qs → Each (Allowed t n) more
      → productions_from (rows_bytes (Qs ++ more) ++ zs) (length more) (length Qs) ≡ more
  productions_in Qs [] zs q e = refl
  productions_in Qs (P ∷ more) zs q (Each.cons a e) =
      let l : length Qs + 1 ≡ length (Qs ++ (P ∷ [])) = omega (arith, length-append Qs (P ∷ [])) in
      let rest : productions_from (rows_bytes (Qs ++ P ∷ more) ++ zs) (length more) (length Qs + 1) ≡ more =
      ap (productions_from (rows_bytes (Qs ++ P ∷ more) ++ zs) (length more)) l
      ∙ ap (λ (Rs : List Production). productions_from (rows_bytes Rs ++ zs) (length more) (length (Qs ++ (P ∷ [])))) (sym (append_snoc Qs P more))
      ∙ productions_in (Qs ++ (P ∷ [])) more zs (each_join q (Each.cons a Each.nil)) e
      in
      λ i. production_in_lem (rows_bytes (Qs ++ P ∷ more) ++ zs) (length Qs) P a (row_in Qs P more zs q a) i ∷ rest i

-- a grammar's rows hold that grammar
pub rows_grammar : (G : Grammar) → WellFormed G → grammar_in (rows_of G.productions) (head_of G) ≡ G
unfolding grammar_in rows_of
rows_grammar G f =
    let small : G.t + G.n < symbol_space = omega (arith, f.head.terminals.1, f.head.nonterminals.1) in
    let e = productions_in small [] G.productions (zeros (rows_size - length G.productions * row_size)) Each.nil f.each in
    λ i. record { t = G.t; n = G.n; start = G.start; productions = e i }

-- a start symbol is a small number, too
pub start_small : (rows : List ℕ) (head : Head) → WellFormed (grammar_in rows head) → head.start < symbol_space
unfolding grammar_in
start_small rows head f = omega (arith, f.head.terminals.1, f.head.nonterminals.1, f.head.start.1)

-- ---- reading a row, as the code does it

module _ (rows : List ℕ) (p : ℕ) where
  pub row_byte : (j b : ℕ) → j < row_size → b ≡ get_or rows (p * row_size + j) 0 → b ≡ get_or (row_at rows p) j 0
  row_byte j b l e = e ∙ sym (get_or-take row_size (drop (p * row_size) rows) j 0 l ∙ get_or-drop (p * row_size) rows j 0)

  pub row_none : (j : ℕ) → length rows / row_size < p → 0 ≡ get_or (row_at rows p) j 0
  row_none j l =
      let q : drop (p * row_size) rows ≡ [] = drop_of_length-le rows {i = p * row_size} (omega arith) in
      sym (ap (λ (u : List ℕ). get_or (take row_size u) j 0) q)

  pub symbol_past : (j : ℕ) → max_body ≤ j → 0 ≡ symbol_at rows p j
  unfolding symbol_at
  symbol_past j l =
      let q : get_or (row_at rows p) (2 + j) 0 ≡ 0 = get_or-eq_default (row_at rows p) 0 {n = 2 + j} (omega (arith, length-take row_size (drop (p * row_size) rows))) in
      omega arith

pub ruleset row_reads = (row_byte, row_none, symbol_past)

-- ---- whatever the bytes, symbols and lengths are small

pub left_small : (rows : List ℕ) (p : ℕ) → left_at rows p < symbol_space
unfolding left_at
left_small rows p = omega arith

pub symbols_small : (rows : List ℕ) (p k j : ℕ) → Each (λ (x : ℕ). x < symbol_space) (symbols_from rows p k j)
unfolding symbol_at
symbols_small rows p zero j = Each.nil
symbols_small rows p (suc k) j = let l : symbol_at rows p j < symbol_space = omega arith in Each.cons l (symbols_small rows p k (j + 1))

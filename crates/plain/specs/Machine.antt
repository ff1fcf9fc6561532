-- The parse on bytes: the symbols that are left stand at the end of the work area, the next one first, and the nodes at its beginning. Each turn takes one symbol and writes one node.
use Prim.Native.Nat.{ℕ, zero, suc, ◌+◌, ◌-◌, ◌*◌, ◌%◌, ◌^◌, ◌≤◌, ◌<◌}
use Rattle.std.specs.Prelude.{◌≡◌, ◌⊎◌, false, set, eqb}
use Rattle.std.proofs.Math.Path.{refl, sym, ap}
use Rattle.std.proofs.Common.{◌∙◌, subst, inl, inr, length-drop, ext_get_or, get_or-drop, eq-eqb, ne_eqb, eqb-true, add-one}
use Rattle.std.proofs.Math.Logic.{by_cases}
use mathlib.Core.List.{List, [], ◌∷◌, ◌++◌}
use Rattle.std.proofs.Math.ListN.{length, drop, length-set, drop_of_length-le}
use Rattle.std.proofs.Math.Seq.{drop-cons, get_or-set_same}
use Rattle.std.specs.Int.Bits.{bit_or}
use Rattle.std.proofs.lemmas.Nat.{or_lt}
use Rattle.std.proofs.Math.Pow.{pow-lt}
use Rattle.std.proofs.lemmas.Bool.{eqb-false}
use Rattle.std.proofs.Math.Nat.{pow-succ'}
use Rattle.std.proofs.Math.Decide.{ℕ_discrete}
use native.Mathlib.Omega.{arith}
use Rattle.base.specs.Bytes.{byte_at, get32, byte_out}
use Rattle.base.specs.Bits.{Has, none_has, one_has, has_one, or_has, has_or_left, has_or_right, shift_one}
use Rattle.base.specs.Choose.{never, choose, choose_of}
use Rattle.base.specs.Filled.{Filled}
use Rattle.grammar.specs.Limits.{max_terminals, max_nonterminals, columns}
use Rattle.grammar.specs.Each.{Each, each_join}
use Rattle.grammar.specs.Grammar.{Grammar, Rule, Terminal, SymbolOf}
use Rattle.grammar.specs.Rules.{rule_allowed}
use Rattle.grammar.specs.Prediction.{Predicts, by_first, by_follow, Prepared}
use Rattle.grammar.specs.Rows.{length_at, symbol_at, symbols_from, grammar_in}
use Rattle.grammar.specs.RowRules.{body_at, RowOf, rule_row}
use Rattle.grammar.specs.declared.Head.{Head}
use Rattle.predictions.specs.Verdict.{predictor_small}
use Rattle.tables.specs.Tables.{Prediction, some, none, Tables}
use Rattle.trees.specs.Nodes.{Node, Lists, leaves_of}
use Rattle.trees.specs.Coded.{nodes_from, length_nodes}
use Rattle.trees.specs.Listing.{node_of, Put, put_last}
use Rattle.plain.specs.Plain.{ahead, accepted, syntax, out_of_room, Expects, prediction, itself, end, crowded, stuck, Parses}
use Rattle.plain.specs.One.{no_rule}
use Rattle.plain.specs.Tokens.{token_size, token_at, tokens_from, Kinds}
use Rattle.plain.specs.Parsing.{Parsing, parsing_start, parsing_match, parsing_expand, parsing_end}

-- the nodes have the slots from s on, one after the other
pub data Numbered : ℕ → List Node → Type 0 where
  nil : {s : ℕ} → Numbered s []
  cons : {s : ℕ} {e : Node} {es : List Node} → e.slot ≡ s → Numbered (s + 1) es → Numbered s (e ∷ es)

numbered_last : {s : ℕ} {es : List Node} (e : Node) → e.slot ≡ s + length es → Numbered s es → Numbered s (es ++ (e ∷ []))
numbered_last {s} e q Numbered.nil = let z : e.slot ≡ s = omega (arith, q) in Numbered.cons z Numbered.nil
numbered_last {s} e q (Numbered.cons {es = es} z h) = let y : e.slot ≡ s + 1 + length es = omega (arith, q) in Numbered.cons z (numbered_last e y h)

-- the bits of e are the lookaheads with a prediction in row R
pub record Lit (table : List ℕ) (R e : ℕ) : Type 0 where
  pub small : e < 2 ^ columns
  pub all : (c : ℕ) → c < columns → (byte_at table (R * columns + c) ≡ 0 → ⊥) → Has e c
  pub only : (c : ℕ) → Has e c → (c < columns) × (byte_at table (R * columns + c) ≡ 0 → ⊥)

-- a set with c, if v is not 0
unfoldable pub marked : ℕ → ℕ → ℕ → ℕ
marked e c v = choose (eqb v 0) (λ _. e) (λ _. bit_or e (2 ^ c))

pub marked_not : (e c v : ℕ) → v ≡ 0 → e ≡ marked e c v
unfolding marked choose
marked_not e c v q = rw (eq-eqb v 0 q)

pub marked_in : (e c v : ℕ) → c < columns → (v ≡ 0 → ⊥) → bit_or e (1 * 2 ^ c % 2 ^ columns) ≡ marked e c v
unfolding marked choose
marked_in e c v l n = rw (ne_eqb v 0 n, shift_one columns c l)

-- the first c columns of row R
pub record LitTo (table : List ℕ) (R c e : ℕ) : Type 0 where
  pub small : e < 2 ^ c
  pub all : (i : ℕ) → i < c → (byte_at table (R * columns + i) ≡ 0 → ⊥) → Has e i
  pub only : (i : ℕ) → Has e i → (i < c) × (byte_at table (R * columns + i) ≡ 0 → ⊥)

pub lit_none : (table : List ℕ) (R : ℕ) → LitTo table R 0 0
lit_none table R = record { small = omega arith; all = λ i l. absurd (omega arith); only = λ i h. absurd (none_has i h) }

pub lit_more : (table : List ℕ) (R c e e' v : ℕ) → e' ≡ marked e c v → v ≡ byte_at table (R * columns + c) → LitTo table R c e → LitTo table R (c + 1) e'
unfolding marked
lit_more table R c e e' v q f h =
    let double : 2 ^ (c + 1) ≡ 2 * 2 ^ c = rw (add-one c) (pow-succ' 2 c) in
    subst (λ (x : ℕ). LitTo table R (c + 1) x) (sym q)
    (choose_of (LitTo table R (c + 1)) (eqb v 0) _ _
    (λ z. record {
      small = omega (arith, h.small, double);
      all = λ i l n. by_cases (ℕ_discrete i c) (λ j. absurd (n (rw j (sym f ∙ eqb-true v 0 z)))) (λ j. h.all i (omega arith) n);
      only = λ i x. (omega (arith, (h.only i x).0), (h.only i x).1);
    })
    (λ z. record {
      small = or_lt (c + 1) e (2 ^ c) (omega (arith, h.small, double)) (omega (arith, double, h.small));
      all = λ i l n. by_cases (ℕ_discrete i c) (λ j. rw j (has_or_right e (2 ^ c) c (one_has c))) (λ j. has_or_left e (2 ^ c) i (h.all i (omega arith) n));
      only = λ i x. pick i z (or_has e (2 ^ c) i x);
    }))
  where
    pick : (i : ℕ) → eqb v 0 ≡ false → Has e i ⊎ Has (2 ^ c) i → (i < c + 1) × (byte_at table (R * columns + i) ≡ 0 → ⊥)
    pick i z (inl x) = (omega (arith, (h.only i x).0), (h.only i x).1)
    pick i z (inr x) = let j = has_one c i x in (omega (arith, j), λ u. eqb-false v 0 z (f ∙ rw j at u))

pub lit_all : (table : List ℕ) (R c e : ℕ) → columns ≤ c → c ≤ columns → LitTo table R c e → Lit table R e
lit_all table R c e l m h = let q : c ≡ columns = omega arith in let k = rw q at h in record { small = k.small; all = k.all; only = k.only }

-- what stands while a parse runs: the grammar in the rows passes replies 1 to 3, the tables are its tables, and the bytes b are m good tokens
pub record Ground (rows : List ℕ) (head : Head) (table b : List ℕ) (m : ℕ) : Type 0 where
  pub prepared : Prepared (grammar_in rows head)
  pub tables : Tables (grammar_in rows head) table
  pub long : length b ≡ token_size * m
  pub kinds : Kinds head.t b m

-- o nodes are written in n, k tokens matched, and the symbols from p on of s are left
pub record At (G : Grammar) (S : ℕ) (b : List ℕ) (m : ℕ) (n s : List ℕ) (p o k : ℕ) : Type 0 where
  pub parsing : Parsing G S (tokens_from b m 0) (drop p s) (tokens_from b (m - k) k) (o + (length s - p)) k (nodes_from n o 0)
  pub symbols : Each (SymbolOf G.t G.n) (drop p s)
  -- "Parse puts nodes in slots 1, 2, .. in preorder"
  pub numbered : Numbered 1 (nodes_from n o 0)

-- the parse goes on from there, with room for what is left
pub record Going (G : Grammar) (S : ℕ) (b : List ℕ) (m : ℕ) (n s : List ℕ) (p o k : ℕ) : Type 0 where
  pub low : p ≤ length s
  pub room : o + (length s - p) ≤ S
  pub matched : k ≤ m
  pub at : At G S b m n s p o k

-- an accepted sentence: o nodes are its derivation, in preorder, in slots 1, 2, ..
pub record Done (G : Grammar) (S : ℕ) (b : List ℕ) (m o : ℕ) (w : List ℕ) : Type 0 where
  pub parses : Parses G S (tokens_from b m 0) (accepted o)
  pub lists : Lists G (G.start ∷ []) (nodes_from w o 0)
  pub leaves : leaves_of (nodes_from w o 0) ≡ tokens_from b m 0
  pub numbered : Numbered 1 (nodes_from w o 0)

pub length_symbols : (rows : List ℕ) (j k i : ℕ) → length (symbols_from rows j k i) ≡ k
length_symbols rows j zero i = refl
length_symbols rows j (suc k) i = ap suc (length_symbols rows j k (i + 1))

-- the same bytes from p on
pub drop_kept : (s s' : List ℕ) (p : ℕ) → length s' ≡ length s → ((j : ℕ) → p ≤ j → byte_at s' j ≡ byte_at s j) → drop p s' ≡ drop p s
drop_kept s s' p l h =
    ext_get_or 0 (drop p s') (drop p s) (length-drop p s' ∙ ap (λ (x : ℕ). x - p) l ∙ sym (length-drop p s))
    (λ i x. get_or-drop p s' i 0 ∙ h (p + i) (omega arith) ∙ sym (get_or-drop p s i 0))

-- a body in place of the symbol on top
pushed : (rows s s' : List ℕ) (j d r : ℕ) → d + length_at rows j ≡ r → r ≤ length s → Filled (symbol_at rows j) d (length_at rows j) s s' → drop d s' ≡ body_at rows j ++ drop r s
pushed rows s s' j d r e m u =
    let z : d + 0 ≡ d = omega arith in rw z at (go (length_at rows j) 0 (omega arith))
  where
    go : (k i : ℕ) → i + k ≡ length_at rows j → drop (d + i) s' ≡ symbols_from rows j k i ++ drop r s
    go zero i x =
        let z : d + i ≡ r = omega arith in
        rw z (drop_kept s s' r u.long (λ i y. u.behind i (omega arith)))
    go (suc k) i x =
        let z : suc (d + i) ≡ d + (i + 1) = omega arith in
        rw (z, u.inside i (omega arith), go k (i + 1) (omega arith)) at (drop-cons s' (d + i) 0 (omega (arith, u.long)))

module _ {rows : List ℕ} {head : Head} {table b : List ℕ} {m : ℕ} (g : Ground rows head table b m) where
  abbrev G : Grammar
  G = grammar_in rows head

  pub few : head.t ≤ max_terminals
  unfolding grammar_in
  few = g.prepared.formed.head.terminals.1

  pub start_small : head.start < 256
  unfolding grammar_in
  start_small = omega (arith, few, g.prepared.formed.head.nonterminals.1, g.prepared.formed.head.start.1)

  -- the lookahead is read from the bytes
  ahead_at : (k : ℕ) → k ≤ m → byte_at b (token_size * k) ≡ ahead (tokens_from b (m - k) k)
  unfolding token_at
  ahead_at k l = by_cases (ℕ_discrete k m)
      (λ e. let q : m - k ≡ 0 = omega arith in rw q (sym (byte_out b (token_size * k) (omega (arith, g.long)))))
      (λ e. let q : m - k ≡ suc (m - (k + 1)) = omega arith in rw q)

  ahead_small : (k : ℕ) → k ≤ m → byte_at b (token_size * k) < columns
  ahead_small k l = by_cases (ℕ_discrete k m)
      (λ e. let q = byte_out b (token_size * k) (omega (arith, g.long)) in omega (arith, q))
      (λ e. let q = g.kinds.is k (omega arith) in omega (arith, q.1, few))

  predicted_rule : {M c p : ℕ} → Predicts G M c p → (γ : List ℕ) × Rule G p M γ
  predicted_rule (by_first {γ = γ} r f) = (γ, r)
  predicted_rule (by_follow {γ = γ} r f v) = (γ, r)

  predicted_row : {M c p : ℕ} (x : Predicts G M c p) → RowOf rows head.count p M (predicted_rule x).0
  predicted_row x = rule_row rows head (predicted_rule x).1

  small_ahead : {M c p : ℕ} → Predicts G M c p → c < columns
  small_ahead x = predictor_small g.prepared.formed.head.terminals.1 x

  module _ {S : ℕ} where
    pub at_start : (n s : List ℕ) {p : ℕ} → p + 1 ≡ length s → At G S b m n (set s p head.start) p 0 0
    unfolding grammar_in
    at_start n s {p} long =
        let s' : List ℕ = set s p head.start in
        let l : p + 1 ≡ length s' = long ∙ sym (length-set s p head.start) in
        let x : byte_at s' p ≡ head.start = get_or-set_same s p head.start 0 (omega arith) in
        let e : drop p s' ≡ head.start ∷ [] = drop-cons s' p 0 (omega arith) ∙ rw (x, drop_of_length-le s' {i = suc p} (omega arith)) in
        let q : 0 + (length s' - p) ≡ 1 = omega arith in
        let z : m - 0 ≡ m = omega arith in
        let x = g.prepared.formed.head.start in
        let y : SymbolOf head.t head.n head.start = (omega (arith, x.0), x.1) in
        record {
          parsing = rw (e, q, z) parsing_start;
          symbols = rw e (Each.cons y Each.nil);
          numbered = Numbered.nil;
        }

    pub going_start : (n s : List ℕ) {p : ℕ} → 1 ≤ S → p + 1 ≡ length s → Going G S b m n (set s p head.start) p 0 0
    going_start n s {p} r long =
        let l = length-set s p head.start in
        record { low = omega (arith, l); room = omega (arith, l); matched = omega arith; at = at_start n s long }

    module _ {n s : List ℕ} {p o k : ℕ} (lp : p < length s) (h : Going G S b m n s p o k) {M a : ℕ} (eM : M ≡ byte_at s p) (ea : a ≡ byte_at b (token_size * k)) where
      opened : drop p s ≡ M ∷ drop (p + 1) s
      opened = let q : suc p ≡ p + 1 = omega arith in rw (q, ← eM) at (drop-cons s p 0 lp)

      top_symbol : SymbolOf head.t head.n M
      unfolding grammar_in
      top_symbol = go (rw opened at h.at.symbols)
        where
          go : {x : ℕ} {xs : List ℕ} → Each (SymbolOf head.t head.n) (x ∷ xs) → SymbolOf head.t head.n x
          go (Each.cons y ys) = y

      others : Each (SymbolOf G.t G.n) (drop (p + 1) s)
      others = go (rw opened at h.at.symbols)
        where
          go : {x : ℕ} {xs : List ℕ} → Each (SymbolOf G.t G.n) (x ∷ xs) → Each (SymbolOf G.t G.n) xs
          go (Each.cons y ys) = ys

      here : Parsing G S (tokens_from b m 0) (M ∷ drop (p + 1) s) (tokens_from b (m - k) k) (o + (length s - p)) k (nodes_from n o 0)
      here = rw opened at h.at.parsing

      seen : a ≡ ahead (tokens_from b (m - k) k)
      seen = ea ∙ ahead_at k h.matched

      -- ---- a terminal on top

      module _ (lM : M ≤ head.t) where
        terminal : Terminal G M
        unfolding grammar_in
        terminal = (top_symbol.0, lM)

        no_predicted : {c q : ℕ} → Predicts G M c q → ⊥
        no_predicted (by_first r f) = no_rule g.prepared terminal r
        no_predicted (by_follow r f v) = no_rule g.prepared terminal r

        -- it is the next token
        pub at_leaf : M ≡ a → {n' : List ℕ} {tag : ℕ} → tag ≡ get32 b (token_size * k + 1) → Put n o (node_of (o + 1) M 0 tag) n' → Going G S b m n' s (p + 1) (o + 1) (k + 1)
        unfolding token_at
        at_leaf e {n'} {tag} f u₀ =
            let u : Put n o (node_of (o + 1) M 0 (get32 b (token_size * k + 1))) n' = rw f at u₀ in
            let l : k < m = by_cases (ℕ_discrete k m) (λ z. absurd (let q = byte_out b (token_size * k) (omega (arith, g.long)) in omega (arith, q, top_symbol.0))) (λ z. omega (arith, h.matched)) in
            let q : m - k ≡ suc (m - (k + 1)) = omega arith in
            let c : o + (length s - p) ≡ o + 1 + (length s - (p + 1)) = omega arith in
            let z : suc k ≡ k + 1 = omega arith in
            let x : Parsing G S (tokens_from b m 0) (M ∷ drop (p + 1) s) (token_at b k ∷ tokens_from b (m - (k + 1)) (k + 1)) (o + (length s - p)) k (nodes_from n o 0) = rw q at here in
            let y : Parsing G S (tokens_from b m 0) (drop (p + 1) s) (tokens_from b (m - (k + 1)) (k + 1)) (o + (length s - p)) (suc k) (nodes_from n o 0 ++ (node_of (o + 1) M 0 (get32 b (token_size * k + 1)) ∷ [])) =
            parsing_match {G = G} (o + 1) M (token_at b k) terminal (e ∙ ea) x
            in
            record {
              low = omega arith;
              room = omega (arith, h.room);
              matched = omega arith;
              at = record {
                parsing = rw (put_last u, ← c) (rw z at y);
                symbols = others;
                numbered = rw (put_last u) (numbered_last (node_of (o + 1) M 0 (get32 b (token_size * k + 1))) (omega (arith, length_nodes n o 0)) h.at.numbered);
              };
            }

        -- it is not
        pub at_odd : (M ≡ a → ⊥) → Parses G S (tokens_from b m 0) (syntax k (1 * 2 ^ M % 2 ^ columns))
        at_odd ne = rw (shift_one columns M (omega (arith, lM, few))) (here.run (syntax k (2 ^ M)) (stuck (λ x. odd x refl refl) (record {
          small = pow-lt {i = M} {j = columns} (omega (arith, lM, few));
          all = λ c x. rw (only x refl) (one_has M);
          only = λ c x. rw (has_one M c x) (itself terminal);
        })))
          where
            only : {xs : List ℕ} {c : ℕ} → Expects G xs c → xs ≡ M ∷ drop (p + 1) s → c ≡ M
            only (prediction {M = N} x) e = let z : N ≡ M = cc in absurd (no_predicted (rw z at x))
            only (itself y) e = cc
            only end e = never (cc)

            odd : {xs : List ℕ} {c : ℕ} → Expects G xs c → xs ≡ M ∷ drop (p + 1) s → c ≡ ahead (tokens_from b (m - k) k) → ⊥
            odd x e f = ne (sym (only x e) ∙ f ∙ sym seen)

      -- ---- a nonterminal on top

      module _ (lM : head.t < M) {q : ℕ} (eq : q ≡ byte_at table ((M - head.t - 1) * columns + a)) where
        pub low_row : M - head.t - 1 < max_nonterminals
        unfolding grammar_in
        low_row = omega (arith, top_symbol.1, g.prepared.formed.head.nonterminals.1)

        -- what the tables have for M
        cell : (c : ℕ) → c < columns → Prediction G M c (byte_at table ((M - head.t - 1) * columns + c))
        unfolding grammar_in
        cell c l =
            let x : head.t + 1 + (M - head.t - 1) ≡ M = omega arith in
            rw x at (g.tables.prediction (M - head.t - 1) c low_row l)

        own : Prediction G M (ahead (tokens_from b (m - k) k)) q
        own = rw (← seen, eq) (cell a (rw ea (ahead_small k h.matched)))

        no_terminal : Terminal G M → ⊥
        unfolding grammar_in
        no_terminal y = omega (arith, y.1)

        -- nothing is predicted
        pub at_none : q ≡ 0 → {e : ℕ} → Lit table (M - head.t - 1) e → Parses G S (tokens_from b m 0) (syntax k e)
        at_none z {e} u = here.run (syntax k e) (stuck (λ x. nothing x refl refl) (record { small = u.small; all = λ c x. shown x refl; only = λ c x. back c (u.only c x) }))
          where
            none_at : {c v : ℕ} → Prediction G M c v → v ≡ 0 → (p : ℕ) → Predicts G M c p → ⊥
            none_at (none f) e p x = f p x
            none_at (some {p = v} x) e p y = omega (arith, (predicted_row x).number, e)

            nothing : {xs : List ℕ} {c : ℕ} → Expects G xs c → xs ≡ M ∷ drop (p + 1) s → c ≡ ahead (tokens_from b (m - k) k) → ⊥
            nothing (prediction {M = N} {p = p} x) e f = let y : N ≡ M = cc in none_at own z p (rw (y, f) at x)
            nothing (itself {a = c} y) e f = let y' : c ≡ M = cc in no_terminal (rw y' at y)
            nothing end e f = never (cc)

            shown : {xs : List ℕ} {c : ℕ} → Expects G xs c → xs ≡ M ∷ drop (p + 1) s → Has e c
            shown (prediction {M = N} {a = c} {p = p} x) f =
                let y : N ≡ M = cc in
                let x' : Predicts G M c p = rw y at x in
                let l = small_ahead x' in
                u.all c l (λ v. none_at (cell c l) v p x')
            shown (itself {a = c} y) f = let y' : c ≡ M = cc in absurd (no_terminal (rw y' at y))
            shown end f = never (cc)

            found : {c v : ℕ} → Prediction G M c v → (v ≡ 0 → ⊥) → Expects G (M ∷ drop (p + 1) s) c
            found (none f) n = absurd (n refl)
            found (some x) n = prediction x

            back : (c : ℕ) → (c < columns) × (byte_at table ((M - head.t - 1) * columns + c) ≡ 0 → ⊥) → Expects G (M ∷ drop (p + 1) s) c
            back c x = found (cell c x.0) x.1

        -- a production is
        module _ (nz : q ≡ 0 → ⊥) where
          predicted : Predicts G M (ahead (tokens_from b (m - k) k)) q
          predicted = go own nz
            where
              go : {c v : ℕ} → Prediction G M c v → (v ≡ 0 → ⊥) → Predicts G M c v
              go (none f) n = absurd (n refl)
              go (some x) n = x

          row_of : (q - 1 < head.count) × Rule G q M (body_at rows (q - 1))
          row_of =
              let r = predicted_rule predicted in
              let x = rule_row rows head r.1 in
              let z : q - 1 ≡ x.row = omega (arith, x.number) in
              (omega (arith, x.number, x.low), rw (z, ← x.body) r.1)

          -- without room for its body
          pub at_crowded : S < o + (length s - p) + length_at rows (q - 1) → Parses G S (tokens_from b m 0) out_of_room
          at_crowded l = here.run out_of_room (crowded predicted row_of.1 (rw (length_symbols rows (q - 1) (length_at rows (q - 1)) 0) l))

          -- or with it
          pub at_inner : {len : ℕ} → len ≡ length_at rows (q - 1) → o + (length s - p) + len ≤ S → {s' n' : List ℕ} {d : ℕ} → d + len ≡ p + 1 → Filled (symbol_at rows (q - 1)) d len s s'
              → Put n o (node_of (o + 1) M q 0) n' → Going G S b m n' s' d (o + 1) k
          at_inner {len} el l {s'} {n'} {d} ed u₀ v =
              let u : Filled (symbol_at rows (q - 1)) d (length_at rows (q - 1)) s s' = rw el at u₀ in
              let γ = body_at rows (q - 1) in
              let lγ = length_symbols rows (q - 1) (length_at rows (q - 1)) 0 in
              let st : drop d s' ≡ γ ++ drop (p + 1) s = pushed rows s s' (q - 1) d (p + 1) (omega arith) (omega arith) u in
              let c : o + (length s - p) + length γ ≡ o + 1 + (length s' - d) = omega (arith, u.long, lγ) in
              let y : Parsing G S (tokens_from b m 0) (γ ++ drop (p + 1) s) (tokens_from b (m - k) k) (o + (length s - p) + length γ) k (nodes_from n o 0 ++ (node_of (o + 1) M q 0 ∷ [])) =
              parsing_expand {G = G} (o + 1) M q γ predicted row_of.1 (omega (arith, nz)) (omega (arith, lγ)) here
              in
              record {
                low = omega (arith, u.long);
                room = omega (arith, u.long);
                matched = h.matched;
                at = record {
                  parsing = rw (st, put_last v, ← c) y;
                  symbols = rw st (each_join (rule_allowed g.prepared.formed row_of.1).symbols others);
                  numbered = rw (put_last v) (numbered_last (node_of (o + 1) M q 0) (omega (arith, length_nodes n o 0)) h.at.numbered);
                };
              }

    -- ---- no symbol left

    module _ {n s : List ℕ} {p o k : ℕ} (lp : length s ≤ p) (h : At G S b m n s p o k) where
      over : Parsing G S (tokens_from b m 0) [] (tokens_from b (m - k) k) (o + (length s - p)) k (nodes_from n o 0)
      over = rw (drop_of_length-le s {i = p} lp) at h.parsing

      pub at_end : k ≡ m → Done G S b m o n
      at_end e =
          let z : m - k ≡ 0 = omega arith in
          let q = parsing_end (rw z at over) in
          record { parses = rw (length_nodes n o 0) at q.0; lists = q.1; leaves = q.2; numbered = h.numbered }

      pub at_rest : k < m → Parses G S (tokens_from b m 0) (syntax k 1)
      unfolding token_at
      at_rest l =
          let z : m - k ≡ suc (m - (k + 1)) = omega arith in
          let r = rw z at over in
          r.run (syntax k 1) (stuck (λ x. more x refl refl) (record { small = omega arith; all = λ c x. rw (last x refl) (one_has 0); only = λ c x. rw (has_one 0 c x) end }))
        where
          last : {xs : List ℕ} {c : ℕ} → Expects G xs c → xs ≡ [] → c ≡ 0
          last (prediction x) e = never (cc)
          last (itself y) e = never (cc)
          last end e = refl

          more : {xs : List ℕ} {c : ℕ} → Expects G xs c → xs ≡ [] → c ≡ byte_at b (token_size * k) → ⊥
          more x e f = omega (arith, last x e, f, (g.kinds.is k l).0)

-- A turn of a parse whose nodes and symbols stand in one work area: the symbols are clear of the nodes, so that neither touches the other.
use Rattle.std.specs.Prelude.{ℕ, ◌+◌, ◌-◌, ◌*◌, ◌≤◌, ◌<◌, ◌≡◌, List, length, drop}
use Rattle.std.proofs.Common.{◌∙◌, arith}
use Rattle.base.specs.Bytes.{byte_at, get32}
use Rattle.base.specs.Filled.{Filled}
use Rattle.grammar.specs.Limits.{columns}
use Rattle.grammar.specs.Grammar.{Grammar}
use Rattle.grammar.specs.Rows.{length_at, symbol_at, grammar_in}
use Rattle.grammar.specs.declared.Head.{Head}
use Rattle.trees.specs.Coded.{node_size, nodes_from}
use Rattle.trees.specs.Listing.{node_of, Put, nodes_kept}
use Rattle.plain.specs.Tokens.{token_size}
use Rattle.plain.specs.Machine.{Ground, Going, drop_kept, at_leaf, at_inner}

-- the same symbols, and as many, among other bytes
other_stack : {G : Grammar} {S m p o k : ℕ} {b n s s' : List ℕ} → length s' ≡ length s → drop p s' ≡ drop p s
    → Going G S b m n s p o k → Going G S b m n s' p o k
other_stack l d h =
    record {
      low = rw l h.low;
      room = rw l h.room;
      matched = h.matched;
      at = record { parsing = rw (l, d) h.at.parsing; symbols = rw d h.at.symbols; numbered = h.at.numbered };
    }

-- the same nodes
other_nodes : {G : Grammar} {S m p o k : ℕ} {b n n' s : List ℕ} → nodes_from n' o 0 ≡ nodes_from n o 0
    → Going G S b m n s p o k → Going G S b m n' s p o k
other_nodes e h =
    record {
      low = h.low;
      room = h.room;
      matched = h.matched;
      at = record { parsing = rw e h.at.parsing; symbols = h.at.symbols; numbered = rw e h.at.numbered };
    }

module _ {rows : List ℕ} {head : Head} {table b : List ℕ} {m : ℕ} (g : Ground rows head table b m) {S : ℕ} {w : List ℕ} {p o k : ℕ}
    (long : node_size * S + S ≤ length w) (lp : p < length w) (h : Going (grammar_in rows head) S b m w w p o k)
    {M a : ℕ} (eM : M ≡ byte_at w p) (ea : a ≡ byte_at b (token_size * k)) where
  -- a terminal on top that is the next token
  pub at_leaf_whole : M ≤ head.t → M ≡ a → {w' : List ℕ} {tag : ℕ} → tag ≡ get32 b (token_size * k + 1) → Put w o (node_of (o + 1) M 0 tag) w'
      → (length w' ≡ length w) × Going (grammar_in rows head) S b m w' w' (p + 1) (o + 1) (k + 1)
  at_leaf_whole lM e {w'} f u =
      let d : drop (p + 1) w' ≡ drop (p + 1) w = drop_kept w w' (p + 1) u.long (λ j l. u.behind j (omega (arith, h.room))) in
      (u.long, other_stack u.long d (at_leaf g lp h eM ea lM e f u))

  -- a nonterminal on top with a production, and room for its body
  pub at_inner_whole : head.t < M → {q : ℕ} → q ≡ byte_at table ((M - head.t - 1) * columns + a) → (q ≡ 0 → ⊥)
      → {len : ℕ} → len ≡ length_at rows (q - 1) → o + (length w - p) + len ≤ S → {w₁ w' : List ℕ} {d : ℕ} → d + len ≡ p + 1
      → Filled (symbol_at rows (q - 1)) d len w w₁ → Put w₁ o (node_of (o + 1) M q 0) w'
      → (length w' ≡ length w) × Going (grammar_in rows head) S b m w' w' d (o + 1) k
  at_inner_whole lM eq nz el l {w₁} {w'} {d} ed u v =
      let ns : nodes_from w₁ o 0 ≡ nodes_from w o 0 = nodes_kept w w₁ o 0 (λ j x y. u.before j (omega (arith, h.room))) in
      let st : drop d w' ≡ drop d w₁ = drop_kept w₁ w' d v.long (λ j x. v.behind j (omega (arith, h.room))) in
      (v.long ∙ u.long, other_stack v.long st (at_inner g lp (other_nodes ns h) eM ea lM eq nz el l ed u v))

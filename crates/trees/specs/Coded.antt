-- The node list in bytes: eight for each node, its symbol, production, slot (2) and tag (4).
use Rattle.std.specs.Prelude.{ℕ, zero, suc, ◌+◌, ◌-◌, ◌*◌, ◌≡◌, refl, List, [], ◌∷◌, ◌++◌, length}
use Rattle.std.proofs.Common.{ap}
use Rattle.base.specs.Bytes.{byte_at, get16, get32, le_bytes}
use Rattle.grammar.specs.Rows.{length_at}
use Rattle.trees.specs.Nodes.{Node}

abbrev pub node_size : ℕ
node_size = 8

unfoldable pub node_bytes : Node → List ℕ
node_bytes e = e.symbol ∷ e.production ∷ (le_bytes 2 e.slot ++ le_bytes 4 e.tag)

-- node i, counted from 0
unfoldable pub node_at : List ℕ → ℕ → Node
node_at w i = record {
  slot = get16 w (node_size * i + 2);
  symbol = byte_at w (node_size * i);
  production = byte_at w (node_size * i + 1);
  tag = get32 w (node_size * i + 4);
}

-- k nodes from node i on
abbrev pub nodes_from : List ℕ → ℕ → ℕ → List Node
nodes_from w zero i = []
nodes_from w (suc k) i = node_at w i ∷ nodes_from w k (i + 1)

pub length_nodes : (w : List ℕ) (k i : ℕ) → length (nodes_from w k i) ≡ k
length_nodes w zero i = refl
length_nodes w (suc k) i = ap suc (length_nodes w k (i + 1))

-- how many children the production has whose row is among these
unfoldable pub arity_in : List ℕ → ℕ → ℕ
arity_in rows p = length_at rows (p - 1)

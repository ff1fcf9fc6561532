-- Nodes in a part of a buffer: those from node `base` on.
use Rattle.std.specs.Prelude.{ℕ, zero, suc, ◌+◌, ◌*◌, ◌≡◌, refl, List, ◌∷◌, drop}
use Rattle.std.proofs.Common.{ap, ◌∙◌, get_or-drop, arith}
use Rattle.base.specs.Bytes.{byte_at, get16, get32}
use Rattle.trees.specs.Nodes.{Node}
use Rattle.trees.specs.Coded.{node_size, node_at, nodes_from}

byte_drop : (w : List ℕ) (a j k : ℕ) → a + j ≡ k → byte_at (drop a w) j ≡ byte_at w k
byte_drop w a j k e = get_or-drop a w j 0 ∙ ap (byte_at w) e

get16_drop : (w : List ℕ) (a j k : ℕ) → a + j ≡ k → get16 (drop a w) j ≡ get16 w k
get16_drop w a j k e =
    let x = byte_drop w a j k e in
    let y = byte_drop w a (j + 1) (k + 1) (omega arith) in
    omega arith

get32_drop : (w : List ℕ) (a j k : ℕ) → a + j ≡ k → get32 (drop a w) j ≡ get32 w k
get32_drop w a j k e =
    let x = byte_drop w a j k e in
    let y = byte_drop w a (j + 1) (k + 1) (omega arith) in
    let z = byte_drop w a (j + 2) (k + 2) (omega arith) in
    let v = byte_drop w a (j + 3) (k + 3) (omega arith) in
    omega arith

node_drop : (w : List ℕ) (base i : ℕ) → node_at (drop (node_size * base) w) i ≡ node_at w (base + i)
unfolding node_at
node_drop w base i =
    let x = byte_drop w (node_size * base) (node_size * i) (node_size * (base + i)) (omega arith) in
    let y = byte_drop w (node_size * base) (node_size * i + 1) (node_size * (base + i) + 1) (omega arith) in
    let z = get16_drop w (node_size * base) (node_size * i + 2) (node_size * (base + i) + 2) (omega arith) in
    let v = get32_drop w (node_size * base) (node_size * i + 4) (node_size * (base + i) + 4) (omega arith) in
    cc

pub nodes_drop : (w : List ℕ) (base k i : ℕ) → nodes_from (drop (node_size * base) w) k i ≡ nodes_from w k (base + i)
nodes_drop w base zero i = refl
nodes_drop w base (suc k) i =
    let q : base + (i + 1) ≡ base + i + 1 = omega arith in
    rw (node_drop w base i) (ap (λ (l : List Node). node_at w (base + i) ∷ l) (nodes_drop w base k (i + 1) ∙ ap (nodes_from w k) q))

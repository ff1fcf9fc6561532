-- Writing the node list: what a node's eight bytes leave of the others, and the list with one node more.
use Rattle.std.specs.Prelude.{ℕ, zero, suc, ◌+◌, ◌*◌, ◌/◌, ◌%◌, ◌≤◌, ◌<◌, ◌≡◌, ◌⊎◌, List, [], ◌∷◌, ◌++◌, length}
use Rattle.std.proofs.Math.Path.{refl}
use Rattle.std.proofs.Common.{ap, ◌∙◌, inl, inr, arith}
use Rattle.base.specs.Bytes.{byte_at, get16, get32, put16, le_bytes, byte_out, get16_out, length_put16, get_put16, byte_put16}
use Rattle.base.specs.Filled.{Filled}
use Rattle.trees.specs.Area.{tag_space}
use Rattle.trees.specs.Nodes.{Node}
use Rattle.trees.specs.Coded.{node_size, node_bytes, node_at, nodes_from}
use Rattle.trees.specs.Slots.{apart}

-- a node of these four
abbrev pub node_of : ℕ → ℕ → ℕ → ℕ → Node
node_of s x p g = record { slot = s; symbol = x; production = p; tag = g }

-- w' is w with e as node i
pub record Put (w : List ℕ) (i : ℕ) (e : Node) (w' : List ℕ) : Type 0 where
  pub long : length w' ≡ length w
  pub node : node_at w' i ≡ e
  pub before : (j : ℕ) → j < node_size * i → byte_at w' j ≡ byte_at w j
  pub behind : (j : ℕ) → node_size * i + node_size ≤ j → byte_at w' j ≡ byte_at w j

pub put_filled : (w w' src : List ℕ) (i : ℕ) (e : Node) → src ≡ node_bytes e → e.slot < 65536 → e.tag < tag_space → Filled (byte_at src) (node_size * i) (length src) w w' → Put w i e w'
unfolding node_at node_bytes le_bytes
put_filled w w' src i e q ls lg u =
    let h : Filled (byte_at (node_bytes e)) (node_size * i) node_size w w' = rw q at u in
    let a0 : byte_at w' (node_size * i) ≡ e.symbol = ap (byte_at w') (omega arith) ∙ h.inside 0 (omega arith) in
    let a1 : byte_at w' (node_size * i + 1) ≡ e.production = h.inside 1 (omega arith) in
    let a2 : byte_at w' (node_size * i + 2) ≡ e.slot % 256 = h.inside 2 (omega arith) in
    let a3 : byte_at w' (node_size * i + 2 + 1) ≡ e.slot / 256 % 256 = ap (byte_at w') (omega arith) ∙ h.inside 3 (omega arith) in
    let a4 : byte_at w' (node_size * i + 4) ≡ e.tag % 256 = h.inside 4 (omega arith) in
    let a5 : byte_at w' (node_size * i + 4 + 1) ≡ e.tag / 256 % 256 = ap (byte_at w') (omega arith) ∙ h.inside 5 (omega arith) in
    let a6 : byte_at w' (node_size * i + 4 + 2) ≡ e.tag / 256 / 256 % 256 = ap (byte_at w') (omega arith) ∙ h.inside 6 (omega arith) in
    let a7 : byte_at w' (node_size * i + 4 + 3) ≡ e.tag / 256 / 256 / 256 % 256 = ap (byte_at w') (omega arith) ∙ h.inside 7 (omega arith) in
    let s' : get16 w' (node_size * i + 2) ≡ e.slot = omega arith in
    let g' : get32 w' (node_size * i + 4) ≡ e.tag = omega arith in
    let n : node_at w' i ≡ node_of e.slot e.symbol e.production e.tag = cc in
    record { long = h.long; node = n; before = h.before; behind = h.behind }

pub node_kept : (w w' : List ℕ) (i : ℕ) → ((j : ℕ) → node_size * i ≤ j → j < node_size * (i + 1) → byte_at w' j ≡ byte_at w j) → node_at w' i ≡ node_at w i
unfolding node_at
node_kept w w' i h =
    let a0 = h (node_size * i) (omega arith) (omega arith) in
    let a1 = h (node_size * i + 1) (omega arith) (omega arith) in
    let a2 = h (node_size * i + 2) (omega arith) (omega arith) in
    let a3 = h (node_size * i + 2 + 1) (omega arith) (omega arith) in
    let a4 = h (node_size * i + 4) (omega arith) (omega arith) in
    let a5 = h (node_size * i + 4 + 1) (omega arith) (omega arith) in
    let a6 = h (node_size * i + 4 + 2) (omega arith) (omega arith) in
    let a7 = h (node_size * i + 4 + 3) (omega arith) (omega arith) in
    cc

-- the other nodes are what they were
pub put_other : {w w' : List ℕ} {i : ℕ} {e : Node} → Put w i e w' → (x : ℕ) → (x ≡ i → ⊥) → node_at w' x ≡ node_at w x
put_other {w} {w'} {i} {e} h x d = node_kept w w' x (λ j l m. go (apart x i d) j l m)
  where
    go : (x < i) ⊎ (i < x) → (j : ℕ) → node_size * x ≤ j → j < node_size * (x + 1) → byte_at w' j ≡ byte_at w j
    go (inl y) j l m = h.before j (omega arith)
    go (inr y) j l m = h.behind j (omega arith)

-- a node with another slot
abbrev pub in_slot : ℕ → Node → Node
in_slot s e = node_of s e.symbol e.production e.tag

pub put_slot : (w w' : List ℕ) (i s : ℕ) → node_size * i + node_size ≤ length w → w' ≡ put16 w (node_size * i + 2) s → Put w i (in_slot s (node_at w i)) w'
unfolding node_at
put_slot w w' i s l e =
    let at : ℕ = node_size * i + 2 in
    let k : (j : ℕ) → (j ≡ at → ⊥) → (j ≡ at + 1 → ⊥) → byte_at (put16 w at s) j ≡ byte_at w j = λ j. byte_put16 w at s j in
    let q = get_put16 w at s (omega arith) in
    let a0 = k (node_size * i) (λ e. omega arith) (λ e. omega arith) in
    let a1 = k (node_size * i + 1) (λ e. omega arith) (λ e. omega arith) in
    let a4 = k (node_size * i + 4) (λ e. omega arith) (λ e. omega arith) in
    let a5 = k (node_size * i + 4 + 1) (λ e. omega arith) (λ e. omega arith) in
    let a6 = k (node_size * i + 4 + 2) (λ e. omega arith) (λ e. omega arith) in
    let a7 = k (node_size * i + 4 + 3) (λ e. omega arith) (λ e. omega arith) in
    let n : node_at (put16 w at s) i ≡ in_slot s (node_at w i) = cc in
    rw e (record {
      long = length_put16 w at s;
      node = n;
      before = λ j m. k j (λ e. omega arith) (λ e. omega arith);
      behind = λ j m. k j (λ e. omega arith) (λ e. omega arith);
    })

-- nodes of the same bytes
pub nodes_kept : (w w' : List ℕ) (k i : ℕ) → ((j : ℕ) → node_size * i ≤ j → j < node_size * (i + k) → byte_at w' j ≡ byte_at w j) → nodes_from w' k i ≡ nodes_from w k i
nodes_kept w w' zero i h = refl
nodes_kept w w' (suc k) i h =
    let q = node_kept w w' i (λ j a b. h j a (omega arith)) in
    let r = nodes_kept w w' k (i + 1) (λ j a b. h j (omega arith) (omega arith)) in
    cc

pub nodes_last : (w : List ℕ) (k i : ℕ) → nodes_from w (k + 1) i ≡ nodes_from w k i ++ (node_at w (i + k) ∷ [])
nodes_last w zero i = let q : i + 0 ≡ i = omega arith in rw q
nodes_last w (suc k) i =
    let q : i + 1 + k ≡ i + suc k = omega arith in
    let r : suc k + 1 ≡ suc (k + 1) = omega arith in
    rw r (ap (λ (l : List Node). node_at w i ∷ l) (nodes_last w k (i + 1) ∙ ap (λ (j : ℕ). nodes_from w k (i + 1) ++ (node_at w j ∷ [])) q))

-- the list with one node more
pub put_last : {w w' : List ℕ} {n : ℕ} {e : Node} → Put w n e w' → nodes_from w' (n + 1) 0 ≡ nodes_from w n 0 ++ (e ∷ [])
put_last {w} {w'} {n} {e} h =
    let q : node_at w' (0 + n) ≡ e = ap (node_at w') (omega arith) ∙ h.node in
    let r : nodes_from w' n 0 ≡ nodes_from w n 0 = nodes_kept w w' n 0 (λ j a b. h.before j (omega arith)) in
    nodes_last w' n 0 ∙ cc

-- "a read beyond the end gives 0"
pub node_out : (w : List ℕ) (i : ℕ) → length w / node_size < i → node_of 0 0 0 0 ≡ node_at w i
unfolding node_at
node_out w i l =
    let a0 = byte_out w (node_size * i) (omega arith) in
    let a1 = byte_out w (node_size * i + 1) (omega arith) in
    let a2 = get16_out w (node_size * i + 2) (omega arith) in
    let a4 = byte_out w (node_size * i + 4) (omega arith) in
    let a5 = byte_out w (node_size * i + 4 + 1) (omega arith) in
    let a6 = byte_out w (node_size * i + 4 + 2) (omega arith) in
    let a7 = byte_out w (node_size * i + 4 + 3) (omega arith) in
    let g : 0 ≡ get32 w (node_size * i + 4) = omega arith in
    cc

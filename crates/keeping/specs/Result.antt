-- What the new tree is when its nodes have their slots: the same but for slots, and one that can be laid out.
use Rattle.std.specs.Prelude.{ℕ, zero, suc, ◌+◌, ◌≤◌, ◌<◌, ◌≡◌, refl, List}
use Rattle.std.proofs.Common.{arith}
use Rattle.grammar.specs.Forest.{Forest}
use Rattle.trees.specs.Coded.{node_at, nodes_from}
use Rattle.trees.specs.Listing.{in_slot}
use Rattle.trees.specs.Nodes.{Node, front, back, above, build}
use Rattle.trees.specs.Spread.{Spread}
use Rattle.plain.specs.Traced.{Same}
use Rattle.edits.specs.Giving.{given_spread}
use Rattle.keeping.specs.Matched.{held_from, Fit, length_from}
use Rattle.keeping.specs.Filling.{Gives}

-- its slots are among 1..S, each once
pub gives_spread : {S : ℕ} {w ms w' : List ℕ} {base k : ℕ} → Fit S w ms k → k ≤ S → Gives w base k (held_from w ms k 0) w' → Spread S (nodes_from w' k base)
gives_spread {w = w} {ms = ms} {k = k} h l g =
    let q = given_spread h.held (omega (arith, length_from w ms k 0)) g.given in
    record { once = q.0; within = q.1 }

-- ---- trees that are built from nodes that differ in slots only

front_same : (k : ℕ) {f g : Forest} → Same f g → Same (front k f) (front k g)
front_same zero h = Same.nil
front_same (suc k) Same.nil = Same.nil
front_same (suc k) (Same.leaf h) = Same.leaf (front_same k h)
front_same (suc k) (Same.node h j) = Same.node h (front_same k j)

back_same : (k : ℕ) {f g : Forest} → Same f g → Same (back k f) (back k g)
back_same zero h = h
back_same (suc k) Same.nil = Same.nil
back_same (suc k) (Same.leaf h) = back_same k h
back_same (suc k) (Same.node h j) = back_same k j

above_same : (ar : ℕ → ℕ) (e : Node) (s : ℕ) {f g : Forest} → Same f g → Same (above ar e f) (above ar (in_slot s e) g)
above_same ar e s {f} {g} h = go e.production refl
  where
    go : (p : ℕ) → e.production ≡ p → Same (above ar e f) (above ar (in_slot s e) g)
    go zero q = rw q (Same.leaf h)
    go (suc p) q = rw q (Same.node (front_same (ar (suc p)) h) (back_same (ar (suc p)) h))

build_same : (ar : ℕ → ℕ) (w w' : List ℕ) (k i : ℕ) → ((x : ℕ) → x < k → node_at w' (i + x) ≡ in_slot (node_at w' (i + x)).slot (node_at w (i + x)))
    → Same (build ar (nodes_from w k i)) (build ar (nodes_from w' k i))
build_same ar w w' zero i h = Same.nil
build_same ar w w' (suc k) i h =
    let q : i + 0 ≡ i = omega arith in
    let e : node_at w' i ≡ in_slot (node_at w' i).slot (node_at w i) = rw q at (h 0 (omega arith)) in
    let r = build_same ar w w' k (i + 1) (λ x l. let p : i + suc x ≡ i + 1 + x = omega arith in rw p at (h (suc x) (omega arith))) in
    node (node_at w' i) e r
  where
    node : (e' : Node) → e' ≡ in_slot (node_at w' i).slot (node_at w i) → Same (build ar (nodes_from w k (i + 1))) (build ar (nodes_from w' k (i + 1)))
        → Same (above ar (node_at w i) (build ar (nodes_from w k (i + 1)))) (above ar e' (build ar (nodes_from w' k (i + 1))))
    node e' q r = rw q (above_same ar (node_at w i) (node_at w' i).slot r)

pub gives_same : {w w' hs : List ℕ} {base k : ℕ} (ar : ℕ → ℕ) → Gives w base k hs w' → Same (build ar (nodes_from w k base)) (build ar (nodes_from w' k base))
gives_same {w} {w'} {base = base} {k = k} ar g = build_same ar w w' k base g.fields

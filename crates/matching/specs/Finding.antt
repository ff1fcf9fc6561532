-- The old node of a symbol, with tokens, that starts with a token: the nodes between a token and the one before it are gone through.
use Rattle.std.specs.Prelude.{Option, None, Some, ℕ, zero, suc, ◌+◌, ◌-◌, ◌≤◌, ◌<◌, ◌≡◌, refl, List, [], ◌∷◌, ◌++◌, length, get_or, set, take}
use Rattle.std.proofs.Common.{sym, ap, ◌∙◌, append_assoc, length-append, take_all, take_at, get_or-set_same, get_or-set_other, arith}
use Rattle.std.proofs.Math.Logic.{by_cases}
use Rattle.std.proofs.Math.Decide.{ℕ_discrete, dec_lt}
use Rattle.grammar.specs.Forest.{Token, Forest, yield}
use Rattle.trees.specs.Nodes.{Node as Entry, inner_node, leaf_node, preorder, leaves_of, Formed, leaves_append, leaves_yield, leaf_of, size_preorder}
use Rattle.trees.specs.Coded.{node_at, nodes_from, length_nodes}
use Rattle.edits.specs.Keeping.{Edit, Kept, own, beside, Node}
use Rattle.edits.specs.Places.{tree_size, at_number, Numbered, at_node, at_listed, at_leaves}
use Rattle.notes.specs.Views.{entry_of}
use Rattle.matching.specs.Measure.{tree_in, Built, built_size, at_formed, Measured}

-- ---- the leaves before a node

-- how many of the first i nodes are leaves
abbrev pub leaves_to : List ℕ → ℕ → ℕ
leaves_to w zero = 0
leaves_to w (suc i) = leaves_to w i + leaf_of (node_at w i).production

leaves_mono : (w : List ℕ) (i j : ℕ) → i ≤ j → leaves_to w i ≤ leaves_to w j
leaves_mono w i zero l = let e : i ≡ 0 = omega arith in rw e (omega arith)
leaves_mono w i (suc j) l = by_cases (ℕ_discrete i (suc j)) (λ e. rw e (omega arith)) (λ n. omega (arith, leaves_mono w i j (omega arith)))

leaves_few : (w : List ℕ) (i : ℕ) → leaves_to w i ≤ i
leaves_few w zero = omega arith
leaves_few w (suc i) = go (node_at w i).production (leaves_few w i)
  where
    go : (p : ℕ) → leaves_to w i ≤ i → leaves_to w i + leaf_of p ≤ suc i
    go zero l = omega arith
    go (suc p) l = omega arith

pub leaves_next : (w : List ℕ) (i : ℕ) → leaves_to w (i + 1) ≡ leaves_to w i + leaf_of (node_at w i).production
leaves_next w i = let e : i + 1 ≡ suc i = omega arith in rw e

-- as the list of nodes counts them
leaves_from_lem : (w : List ℕ) (n base i : ℕ) → i ≤ n → leaves_to w base + length (leaves_of (take i (nodes_from w n base))) ≡ leaves_to w (base + i)
leaves_from_lem w zero base zero l = let e : base + 0 ≡ base = omega arith in rw e (omega arith)
leaves_from_lem w zero base (suc i) l = absurd (omega arith)
leaves_from_lem w (suc n) base zero l = let e : base + 0 ≡ base = omega arith in rw e (omega arith)
leaves_from_lem w (suc n) base (suc i) l =
    let e : base + 1 + i ≡ base + suc i = omega arith in
    go (node_at w base).production refl (rw e at (leaves_from_lem w n (base + 1) i (omega arith))) (leaves_next w base)
  where
    go : (p : ℕ) → (node_at w base).production ≡ p → leaves_to w (base + 1) + length (leaves_of (take i (nodes_from w n (base + 1)))) ≡ leaves_to w (base + suc i)
        → leaves_to w (base + 1) ≡ leaves_to w base + leaf_of (node_at w base).production
        → leaves_to w base + length (leaves_of (node_at w base ∷ take i (nodes_from w n (base + 1)))) ≡ leaves_to w (base + suc i)
    go zero q h k = let z : leaves_to w (base + 1) ≡ leaves_to w base + 1 = rw q at k in rw q (omega (arith, h))
    go (suc p) q h k = let z : leaves_to w (base + 1) ≡ leaves_to w base + 0 = rw q at k in rw q (omega (arith, h))

all_leaves : (w : List ℕ) (n : ℕ) → length (leaves_of (nodes_from w n 0)) ≡ leaves_to w n
all_leaves w n =
    let x = leaves_from_lem w n 0 n (omega arith) in
    let y : 0 + n ≡ n = omega arith in
    let z = ap (λ (us : List Entry). length (leaves_of us)) (take_all n (nodes_from w n 0) (omega (arith, length_nodes w n 0))) in
    omega (arith, x, z, ap (leaves_to w) y)

-- a node's first token is counted by the leaves before it
pub first_token : (rows w : List ℕ) (n base : ℕ) → Built rows w n base → {a q m t : ℕ} {f : Forest} (y : ℕ) → Node (tree_in rows w n base) a q m t f → suc y ≡ base + a → leaves_to w base + t ≡ leaves_to w y
first_token rows w n base b {a} {t = t} y h e =
    let l = at_number h in
    let z = built_size rows w n base in
    let x = leaves_from_lem w n base (a - 1) (omega arith) in
    let v : base + (a - 1) ≡ y = omega arith in
    let k : t ≡ length (leaves_of (take (a - 1) (nodes_from w n base))) = at_leaves b.formed h ∙ ap (λ (us : List Entry). length (leaves_of (take (a - 1) us))) b.listed in
    omega (arith, x, k, ap (leaves_to w) v)

-- the nodes of a forest's first tree stand first, and its tokens are their leaves
record Headed (f : Forest) : Type 0 where
  nodes : List Entry
  is : preorder f ≡ nodes ++ preorder (beside f)
  long : length nodes ≡ tree_size f
  leaves : length (leaves_of nodes) ≡ own f

headed : {ar : ℕ → ℕ} {f : Forest} → Formed ar f → Headed f
headed Formed.nil = record { nodes = []; is = refl; long = refl; leaves = refl }
headed (Formed.leaf {s = s} {a = a} {g = g} h) = record { nodes = leaf_node s a g ∷ []; is = refl; long = refl; leaves = refl }
headed (Formed.node {s = s} {M = M} {p = p} {k = k} e h j) =
    record { nodes = inner_node s M (suc p) ∷ preorder k; is = refl; long = ap suc (size_preorder k); leaves = ap (λ (u : List Token). length u) (leaves_yield h) }

-- the tokens up to the end of a node's subtree are counted by the leaves before that end
last_token : (rows w : List ℕ) (n base : ℕ) → Built rows w n base → {a q m t : ℕ} {f : Forest} (y : ℕ) → Node (tree_in rows w n base) a q m t f → suc y ≡ base + a
    → leaves_to w base + (t + own f) ≡ leaves_to w (y + tree_size f)
last_token rows w n base b {a} {t = t} {f = f} y h e =
    let o = at_listed b.formed h in
    let d = headed (at_formed b.formed h) in
    let us : List Entry = o.before ++ d.nodes in
    let rest : List Entry = preorder (beside f) ++ o.behind in
    let i = a - 1 + tree_size f in
    let all : nodes_from w n base ≡ us ++ rest =
    sym b.listed ∙ o.is ∙ ap (λ (u : List Entry). o.before ++ (u ++ o.behind)) d.is ∙ ap (λ (u : List Entry). o.before ++ u) (append_assoc d.nodes (preorder (beside f)) o.behind)
    ∙ sym (append_assoc o.before d.nodes rest) in
    let long : length us ≡ i = omega (arith, length-append o.before d.nodes, o.number, d.long) in
    let few : i ≤ n = omega (arith, long, ap (λ (u : List Entry). length u) all, length-append us rest, length_nodes w n base) in
    let x = leaves_from_lem w n base i few in
    let v : base + i ≡ y + tree_size f = omega (arith, (at_number h).0) in
    let k : take i (nodes_from w n base) ≡ us = ap (take i) all ∙ take_at us rest i long in
    let c = ap (λ (u : List Entry). length (leaves_of u)) k in
    let c' = ap (λ (u : List Token). length u) (leaves_append o.before d.nodes) in
    let c'' = length-append (leaves_of o.before) (leaves_of d.nodes) in
    omega (arith, x, c, c', c'', o.token, d.leaves, ap (leaves_to w) v)

-- the tokens of a tree are its leaves
pub all_tokens : (rows w : List ℕ) (n : ℕ) → Built rows w n 0 → length (yield (tree_in rows w n 0)) ≡ leaves_to w n
all_tokens rows w n b = sym (ap length (leaves_yield b.formed)) ∙ ap (λ (us : List Entry). length (leaves_of us)) b.listed ∙ all_leaves w n

-- behind the subtree of a node lo..hi its tokens are counted, too
pub record Leaved (w ends widths : List ℕ) (lo hi : ℕ) : Type 0 where
  pub each : (y : ℕ) → lo ≤ y → y < hi → leaves_to w y + get_or widths y 0 ≡ leaves_to w (get_or ends y 0)

pub leaved : (rows w : List ℕ) (n base : ℕ) {ends widths : List ℕ} → Built rows w n base → Measured (tree_in rows w n base) base 0 ends widths → Leaved w ends widths base (base + n)
leaved rows w n base b g =
    record {
      each = λ y l k.
          let o : Numbered 1 0 0 0 (tree_in rows w n base) (suc y - base) = at_node (tree_in rows w n base) (suc y - base) (omega arith) (omega (arith, built_size rows w n base)) in
          let at : suc y ≡ base + (suc y - base) = omega arith in
          let v = first_token rows w n base b y o.node at in
          let x = last_token rows w n base b y o.node at in
          let z = ap (leaves_to w) (g.end y o.node (omega arith) at) in
          omega (arith, v, x, z, g.width y o.node (omega arith) at);
    }

-- ---- where the nodes of each token begin

-- of the first i nodes, t are leaves; entry u of `starts` is the index behind leaf u - 1
pub record Started (w : List ℕ) (i t : ℕ) (starts : List ℕ) : Type 0 where
  pub count : t ≡ leaves_to w i
  pub zero_is : get_or starts 0 0 ≡ 0
  pub here : (u : ℕ) → u ≤ t → leaves_to w (get_or starts u 0) ≡ u
  pub few : (u : ℕ) → u ≤ t → get_or starts u 0 ≤ i
  pub step : (u : ℕ) → u < t → (z : ℕ) → get_or starts (u + 1) 0 ≡ suc z → leaves_to w z ≡ u

pub started_few : {w starts : List ℕ} {i t : ℕ} → Started w i t starts → t ≤ i
started_few {w} {i = i} h = omega (arith, h.count, leaves_few w i)

pub started_leaf : (w starts starts' : List ℕ) (i t p : ℕ) → p ≡ (node_at w i).production → p ≡ 0 → t + 1 < length starts → starts' ≡ set starts (t + 1) (i + 1) → Started w i t starts → Started w (i + 1) (t + 1) starts'
started_leaf w starts starts' i t p e z l f h =
    let k : leaves_to w (i + 1) ≡ t + 1 = leaves_next w i ∙ ap (λ (u : ℕ). leaves_to w i + leaf_of u) (sym e ∙ z) ∙ ap (λ (u : ℕ). u + 1) (sym h.count) in
    let same = get_or-set_same starts (t + 1) (i + 1) 0 l in
    rw f (record {
      count = sym k;
      zero_is = get_or-set_other starts (t + 1) 0 (i + 1) 0 (λ x. omega arith) ∙ h.zero_is;
      here = λ u o. by_cases (ℕ_discrete u (t + 1)) (λ x. rw (x, same) k) (λ x. rw (get_or-set_other starts (t + 1) u (i + 1) 0 x) (h.here u (omega arith)));
      few = λ u o. by_cases (ℕ_discrete u (t + 1)) (λ x. rw (x, same) (omega arith)) (λ x. rw (get_or-set_other starts (t + 1) u (i + 1) 0 x) (omega (arith, h.few u (omega arith))));
      step = λ u o v y. by_cases (ℕ_discrete u t)
          (λ x. let q : get_or (set starts (t + 1) (i + 1)) (u + 1) 0 ≡ i + 1 = rw x same in let r : v ≡ i = omega (arith, q, y) in rw (r, x) (sym h.count))
          (λ x. h.step u (omega arith) v (sym (get_or-set_other starts (t + 1) (u + 1) (i + 1) 0 (λ d. x (omega arith))) ∙ y));
    })

pub starts_in_lem : {w starts : List ℕ} {n t r hi : ℕ} → Started w n t starts → r ≤ t → hi ≡ get_or starts r 0 → hi ≤ n
starts_in_lem {r = r} h l e = omega (arith, h.few r l, e)

-- the nodes that start with token u stand from entry u to entry u + 1
module _ {w starts : List ℕ} {i t : ℕ} (h : Started w i t starts) where
  pub starts_low : (u y : ℕ) → u ≤ t → leaves_to w y ≡ u → get_or starts u 0 ≤ y
  starts_low zero y l e = omega (arith, h.zero_is)
  starts_low (suc u) y l e = by_cases (dec_lt y (get_or starts (suc u) 0)) (λ k. absurd (go (get_or starts (suc u) 0) refl k)) (λ k. omega arith)
    where
      go : (x : ℕ) → get_or starts (suc u) 0 ≡ x → y < x → ⊥
      go zero q k = omega arith
      go (suc z) q k =
          let v : get_or starts (u + 1) 0 ≡ suc z = let d : u + 1 ≡ suc u = omega arith in rw d q in
          omega (arith, h.step u (omega arith) z v, leaves_mono w y z (omega arith))

  pub starts_high : (u y : ℕ) → u < t → leaves_to w y ≡ u → y < get_or starts (u + 1) 0
  starts_high u y l e =
      by_cases (dec_lt y (get_or starts (u + 1) 0)) (λ k. k) (λ k. absurd (omega (arith, h.here (u + 1) (omega arith), leaves_mono w (get_or starts (u + 1) 0) y (omega arith))))

  pub starts_token : (u y : ℕ) → u < t → get_or starts u 0 ≤ y → y < get_or starts (u + 1) 0 → leaves_to w y ≡ u
  starts_token u y l a b = go (get_or starts (u + 1) 0) refl b
    where
      go : (x : ℕ) → get_or starts (u + 1) 0 ≡ x → y < x → leaves_to w y ≡ u
      go zero q k = absurd (omega arith)
      go (suc z) q k = omega (arith, h.step u l z q, leaves_mono w y z (omega arith), h.here u (omega arith), leaves_mono w (get_or starts u 0) y a)

-- ---- the search

-- one of the nodes lo..hi of symbol x with tokens
pub data Found (w widths : List ℕ) (lo hi x : ℕ) : Option ℕ → Type 0 where
  some : {y : ℕ} → lo ≤ y → y < hi → (node_at w y).symbol ≡ x → (get_or widths y 0 ≡ 0 → ⊥) → Found w widths lo hi x (Some y)
  none : ((y : ℕ) → lo ≤ y → y < hi → (node_at w y).symbol ≡ x → (get_or widths y 0 ≡ 0 → ⊥) → ⊥) → Found w widths lo hi x None

-- there is none before j
pub record Sought (w widths : List ℕ) (lo j x : ℕ) : Type 0 where
  pub absent : (y : ℕ) → lo ≤ y → y < j → (node_at w y).symbol ≡ x → (get_or widths y 0 ≡ 0 → ⊥) → ⊥

pub found_none : (w widths : List ℕ) (lo j hi x : ℕ) → Sought w widths lo j x → hi ≤ j → Found w widths lo hi x None
found_none w widths lo j hi x h l = Found.none (λ y a b. h.absent y a (omega arith))

pub found_some : (w widths : List ℕ) (lo j hi x s v : ℕ) → lo ≤ j → j < hi → s ≡ (node_at w j).symbol → s ≡ x → v ≡ get_or widths j 0 → (v ≡ 0 → ⊥) → Found w widths lo hi x (Some j)
found_some w widths lo j hi x s v a b e q f n = Found.some a b (sym e ∙ q) (λ z. n (f ∙ z))

-- ---- the old token

-- token t' of the new sentence was token t of the old one; of it only the edit's numbers count
pub data Was (place removed inserted : ℕ) : ℕ → ℕ → Type 0 where
  before : {t' t : ℕ} → t' ≡ t → t < place → Was place removed inserted t' t
  after : {t' t : ℕ} (d : ℕ) → t' ≡ place + inserted + d → t ≡ place + removed + d → Was place removed inserted t' t

-- which one it was
abbrev pub WasTold : (place removed inserted t' : ℕ) → Option ℕ → Type 0
WasTold place removed inserted t' (Some t) = Was place removed inserted t' t
WasTold place removed inserted t' None = (t : ℕ) → Was place removed inserted t' t → ⊥

module _ (place removed inserted t' : ℕ) where
  pub was_before : t' < place → WasTold place removed inserted t' (Some t')
  was_before l = Was.before refl l

  pub was_after : place + inserted ≤ t' → WasTold place removed inserted t' (Some (t' - inserted + removed))
  was_after l =
      let e : t' ≡ place + inserted + (t' - place - inserted) = omega arith in
      let f : t' - inserted + removed ≡ place + removed + (t' - place - inserted) = omega arith in
      Was.after (t' - place - inserted) e f

  pub was_one : {t u : ℕ} → Was place removed inserted t' t → Was place removed inserted t' u → t ≡ u
  was_one (Was.before e l) (Was.before f k) = omega arith
  was_one (Was.before e l) (Was.after d f g) = absurd (omega arith)
  was_one (Was.after d f g) (Was.before e l) = absurd (omega arith)
  was_one (Was.after d e g) (Was.after d' e' g') = omega arith

-- the edit has these numbers
pub record Numbers (e : Edit) (place removed inserted : ℕ) : Type 0 where
  pub place_is : e.place ≡ place
  pub removed_is : e.removed ≡ removed
  pub inserted_is : length e.inserted ≡ inserted

module _ {e : Edit} {place removed inserted : ℕ} (s : Numbers e place removed inserted) where
  pub kept_was : {t' t : ℕ} → Kept e t' t → Was place removed inserted t' t
  kept_was (Kept.before x l) = Was.before x (omega (arith, s.place_is))
  kept_was {t'} {t} (Kept.after d x y) =
      let u : t' ≡ place + inserted + d = omega (arith, s.place_is, s.inserted_is) in
      let v : t ≡ place + removed + d = omega (arith, s.place_is, s.removed_is) in
      Was.after d u v

  pub was_kept : {t' t : ℕ} → Was place removed inserted t' t → Kept e t' t
  was_kept (Was.before x l) = Kept.before x (omega (arith, s.place_is))
  was_kept {t'} {t} (Was.after d x y) =
      let u : t' ≡ e.place + length e.inserted + d = omega (arith, s.place_is, s.inserted_is) in
      let v : t ≡ e.place + e.removed + d = omega (arith, s.place_is, s.removed_is) in
      Kept.after d u v

-- ---- the old node

-- one of the first n nodes, of symbol x and with tokens, that starts with the token that t' was; none where none of the tokens below T starts one
pub data Sourced (w widths : List ℕ) (n T place removed inserted t' x : ℕ) : Option ℕ → Type 0 where
  some : {y t : ℕ} → y < n → Was place removed inserted t' t → leaves_to w y ≡ t → (node_at w y).symbol ≡ x → (get_or widths y 0 ≡ 0 → ⊥)
      → Sourced w widths n T place removed inserted t' x (Some y)
  none : ((y t : ℕ) → t < T → Was place removed inserted t' t → leaves_to w y ≡ t → (node_at w y).symbol ≡ x → (get_or widths y 0 ≡ 0 → ⊥) → ⊥)
      → Sourced w widths n T place removed inserted t' x None

pub sourced_few : {w widths : List ℕ} {n T place removed inserted t' x : ℕ} {r : Option ℕ} → Sourced w widths n T place removed inserted t' x r → entry_of r ≤ n
sourced_few (Sourced.some l was v y z) = omega arith
sourced_few (Sourced.none f) = omega arith

module _ (w widths : List ℕ) (n T place removed inserted t' x : ℕ) where
  -- it is a new token
  pub source_new : WasTold place removed inserted t' None → Sourced w widths n T place removed inserted t' x None
  source_new k = Sourced.none (λ y t l z. absurd (k t z))

  -- there is no such token
  pub source_beyond : {r : ℕ} → WasTold place removed inserted t' (Some r) → T ≤ r → Sourced w widths n T place removed inserted t' x None
  source_beyond k l = Sourced.none (λ y t o v. absurd (omega (arith, was_one place removed inserted t' v k)))

  pub source_found : {r lo hi : ℕ} {s : Option ℕ} {starts : List ℕ} → Started w n T starts → WasTold place removed inserted t' (Some r) → r < T → lo ≡ get_or starts r 0 → hi ≡ get_or starts (r + 1) 0
      → Found w widths lo hi x s → Sourced w widths n T place removed inserted t' x s
  source_found {r} h k l e f (Found.some {y = y} a c d o) =
      let m : y < n = omega (arith, h.few (r + 1) (omega arith), f) in
      Sourced.some m k (starts_token h r y l (omega (arith, e)) (rw (← f) c)) d o
  source_found {r} h k l e f (Found.none absent) =
      Sourced.none (λ y t o v i d c.
      let u : leaves_to w y ≡ r = i ∙ was_one place removed inserted t' v k in
      absent y (omega (arith, e, starts_low h r y (omega arith) u)) (rw f (starts_high h r y l u)) d c)

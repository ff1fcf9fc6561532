-- A forest as the list of its nodes in preorder, a parent before its children, and back.
use Rattle.std.specs.Prelude.{ℕ, zero, suc, ◌+◌, ◌≤◌, ◌<◌, ◌≡◌, refl, List, [], ◌∷◌, ◌++◌, length}
use Rattle.std.proofs.Common.{sym, ap, ◌∙◌, append_assoc, append-nil, length-append, arith}
use Rattle.base.specs.Choose.{never}
use Rattle.std.proofs.Math.Option.{some}
use Rattle.grammar.specs.Grammar.{Grammar, Production, numbered, Rule, Terminal}
use Rattle.grammar.specs.Forest.{Token, Forest, size, yield, Derives}
use Rattle.grammar.specs.Trees.{join, parts}
use Rattle.trees.specs.declared.Node as declared

-- a slot, its symbol and production (0 for a leaf), and its tag (0 unless a leaf), as the code has them
abbrev pub Node : Type 0
Node = declared.Node

abbrev pub leaf_node : ℕ → ℕ → ℕ → Node
leaf_node s a g = record { slot = s; symbol = a; production = 0; tag = g }

abbrev pub inner_node : ℕ → ℕ → ℕ → Node
inner_node s M p = record { slot = s; symbol = M; production = p; tag = 0 }

-- "in preorder"
abbrev pub preorder : Forest → List Node
preorder Forest.nil = []
preorder (Forest.leaf s a g r) = leaf_node s a g ∷ preorder r
preorder (Forest.node s M p k r) = inner_node s M p ∷ (preorder k ++ preorder r)

pub size_preorder : (f : Forest) → length (preorder f) ≡ size f
size_preorder Forest.nil = refl
size_preorder (Forest.leaf s a g r) = ap suc (size_preorder r)
size_preorder (Forest.node s M p k r) = omega (arith, length-append (preorder k) (preorder r), size_preorder k, size_preorder r)

-- the tokens of the leaves
abbrev pub leaves_of : List Node → List Token
leaves_of [] = []
leaves_of (e ∷ es) = go e.production (leaves_of es)
  where
    go : ℕ → List Token → List Token
    go zero w = record { kind = e.symbol; tag = e.tag } ∷ w
    go (suc p) w = w

-- 1 for a leaf's production
abbrev pub leaf_of : ℕ → ℕ
leaf_of zero = 1
leaf_of (suc p) = 0

pub no_leaf : (p : ℕ) → (p ≡ 0 → ⊥) → leaf_of p ≡ 0
no_leaf zero n = absurd (n refl)
no_leaf (suc p) n = refl

-- how many trees stand side by side
abbrev pub trees : Forest → ℕ
trees Forest.nil = 0
trees (Forest.leaf s a g r) = suc (trees r)
trees (Forest.node s M p k r) = suc (trees r)

-- ---- the nodes of a derivation, with no forest: each takes one symbol away and brings those of its body

-- the nodes are a derivation of the symbols
pub data Lists (G : Grammar) : List ℕ → List Node → Type 0 where
  nil : Lists G [] []
  leaf : {s a g : ℕ} {xs : List ℕ} {es : List Node} → Terminal G a → Lists G xs es → Lists G (a ∷ xs) (leaf_node s a g ∷ es)
  node : {s M p : ℕ} {γ xs : List ℕ} {es : List Node} → Rule G p M γ → Lists G (γ ++ xs) es → Lists G (M ∷ xs) (inner_node s M p ∷ es)

pub lists_forest : {G : Grammar} {xs : List ℕ} {es : List Node} → Lists G xs es → (f : Forest) × Derives G xs f × (preorder f ≡ es)
lists_forest Lists.nil = (Forest.nil, Derives.nil, refl)
lists_forest (Lists.leaf {s = s} {a = a} {g = g} t h) =
    let q = lists_forest h in
    (Forest.leaf s a g q.0, Derives.leaf t q.1, ap (λ (u : List Node). leaf_node s a g ∷ u) q.2)
lists_forest (Lists.node {s = s} {M = M} {p = p} {γ = γ} r h) =
    let q = lists_forest h in
    let o = parts γ q.1 in (
      Forest.node s M p o.front o.back,
      Derives.node r o.left o.right,
      ap (λ (u : List Node). inner_node s M p ∷ u) (sym (pre_join o.front o.back) ∙ ap preorder (sym o.is) ∙ q.2),
    )
  where
    pre_join : (f g : Forest) → preorder (join f g) ≡ preorder f ++ preorder g
    pre_join Forest.nil g = refl
    pre_join (Forest.leaf s a x r) g = ap (λ (u : List Node). leaf_node s a x ∷ u) (pre_join r g)
    pre_join (Forest.node s M p k r) g =
        ap (λ (u : List Node). inner_node s M p ∷ u) (ap (λ (u : List Node). preorder k ++ u) (pre_join r g) ∙ sym (append_assoc (preorder k) (preorder r) (preorder g)))

lists_before : {G : Grammar} {xs ys : List ℕ} {f : Forest} {es : List Node} → Derives G xs f → Lists G ys es → Lists G (xs ++ ys) (preorder f ++ es)
lists_before Derives.nil h = h
lists_before (Derives.leaf t d) h = Lists.leaf t (lists_before d h)
lists_before {G} {ys = ys} {es = es} (Derives.node {s = s} {M = M} {p = p} {γ = γ} {xs = xs} {k = k} {r = f} r e d) h =
    let q = lists_before e (lists_before d h) in
    let o : Lists G (γ ++ (xs ++ ys)) ((preorder k ++ preorder f) ++ es) = rw (append_assoc (preorder k) (preorder f) es) q in
    Lists.node {s = s} r o

pub forest_lists : {G : Grammar} {xs : List ℕ} {f : Forest} → Derives G xs f → Lists G xs (preorder f)
forest_lists {xs = xs} {f = f} d = rw (← append-nil xs, ← append-nil (preorder f)) (lists_before d Lists.nil)

-- ---- building a forest from its nodes, the last one first, where it is known how many children a production has

-- the first k trees, and the others
abbrev pub front : ℕ → Forest → Forest
front zero f = Forest.nil
front (suc k) Forest.nil = Forest.nil
front (suc k) (Forest.leaf s a g r) = Forest.leaf s a g (front k r)
front (suc k) (Forest.node s M p c r) = Forest.node s M p c (front k r)

abbrev pub back : ℕ → Forest → Forest
back zero f = f
back (suc k) Forest.nil = Forest.nil
back (suc k) (Forest.leaf s a g r) = back k r
back (suc k) (Forest.node s M p c r) = back k r

-- e with the first trees as its children, if it is no leaf
abbrev pub above : (ℕ → ℕ) → Node → Forest → Forest
above ar e f = go e.production
  where
    go : ℕ → Forest
    go zero = Forest.leaf e.slot e.symbol e.tag f
    go (suc p) = Forest.node e.slot e.symbol (suc p) (front (ar (suc p)) f) (back (ar (suc p)) f)

abbrev pub build : (ℕ → ℕ) → List Node → Forest
build ar [] = Forest.nil
build ar (e ∷ es) = above ar e (build ar es)

-- every node has as many children as its production says
pub data Formed (ar : ℕ → ℕ) : Forest → Type 0 where
  nil : Formed ar Forest.nil
  leaf : {s a g : ℕ} {r : Forest} → Formed ar r → Formed ar (Forest.leaf s a g r)
  node : {s M p : ℕ} {k r : Forest} → trees k ≡ ar (suc p) → Formed ar k → Formed ar r → Formed ar (Forest.node s M (suc p) k r)

front_join : (f g : Forest) → front (trees f) (join f g) ≡ f
front_join Forest.nil g = refl
front_join (Forest.leaf s a x r) g = ap (Forest.leaf s a x) (front_join r g)
front_join (Forest.node s M p k r) g = ap (Forest.node s M p k) (front_join r g)

back_join : (f g : Forest) → back (trees f) (join f g) ≡ g
back_join Forest.nil g = refl
back_join (Forest.leaf s a x r) g = back_join r g
back_join (Forest.node s M p k r) g = back_join r g

build_before : {ar : ℕ → ℕ} {f : Forest} (es : List Node) → Formed ar f → build ar (preorder f ++ es) ≡ join f (build ar es)
build_before es Formed.nil = refl
build_before es (Formed.leaf {s = s} {a = a} {g = g} h) = ap (Forest.leaf s a g) (build_before es h)
build_before {ar} es (Formed.node {s = s} {M = M} {p = p} {k = k} {r = r} e h j) =
    let q : build ar ((preorder k ++ preorder r) ++ es) ≡ join k (join r (build ar es)) =
    rw (append_assoc (preorder k) (preorder r) es) (build_before (preorder r ++ es) h ∙ ap (join k) (build_before es j))
    in
    rw (q, ← e, front_join k (join r (build ar es)), back_join k (join r (build ar es)))

-- a forest is built from its nodes
pub build_preorder : {ar : ℕ → ℕ} {f : Forest} → Formed ar f → build ar (preorder f) ≡ f
build_preorder {ar} {f} h =
    let q : build ar (preorder f ++ []) ≡ join f Forest.nil = build_before [] h in
    rw (append-nil (preorder f), join_nil f) at q
  where
    join_nil : (f : Forest) → join f Forest.nil ≡ f
    join_nil Forest.nil = refl
    join_nil (Forest.leaf s a x r) = ap (Forest.leaf s a x) (join_nil r)
    join_nil (Forest.node s M p k r) = ap (Forest.node s M p k) (join_nil r)

derives_trees : {G : Grammar} {xs : List ℕ} {f : Forest} → Derives G xs f → trees f ≡ length xs
derives_trees Derives.nil = refl
derives_trees (Derives.leaf t d) = ap suc (derives_trees d)
derives_trees (Derives.node r e d) = ap suc (derives_trees d)

-- ar says how long the bodies of G's productions are
pub record Arity (G : Grammar) (ar : ℕ → ℕ) : Type 0 where
  pub is : (p M : ℕ) (γ : List ℕ) → Rule G p M γ → ar p ≡ length γ

pub derives_formed : {G : Grammar} (ar : ℕ → ℕ) → Arity G ar → {xs : List ℕ} {f : Forest} → Derives G xs f → Formed ar f
derives_formed ar h Derives.nil = Formed.nil
derives_formed ar h (Derives.leaf t d) = Formed.leaf (derives_formed ar h d)
derives_formed {G} ar h (Derives.node {s = s} {M = M} {p = p} {γ = γ} {k = k} {r = f} r e d) = go p r (derives_formed ar h e) (derives_formed ar h d)
  where
    no_zero : (Ps : List Production) → numbered Ps 0 ≡ some (record { left = M; body = γ }) → ⊥
    no_zero [] e = never (cc)
    no_zero (P ∷ Ps) e = never (cc)

    go : (p : ℕ) → Rule G p M γ → Formed ar k → Formed ar f → Formed ar (Forest.node s M p k f)
    go zero r u v = absurd (no_zero G.productions r.found)
    go (suc p) r u v = Formed.node (derives_trees e ∙ sym (h.is (suc p) M γ r)) u v

-- at every node there are the children that it is to have
pub data Fed (ar : ℕ → ℕ) : List Node → Type 0 where
  nil : Fed ar []
  cons : {e : Node} {es : List Node} → (0 < e.production → ar e.production ≤ trees (build ar es)) → Fed ar es → Fed ar (e ∷ es)

fed_before : {ar : ℕ → ℕ} {f : Forest} (es : List Node) → Formed ar f → Fed ar es → Fed ar (preorder f ++ es)
fed_before es Formed.nil u = u
fed_before {ar} es (Formed.leaf {r = r} h) u =
    let x : 0 < 0 → ar 0 ≤ trees (build ar (preorder r ++ es)) = λ l. absurd (omega arith) in
    Fed.cons x (fed_before es h u)
fed_before {ar} es (Formed.node {s = s} {M = M} {p = p} {k = k} {r = r} e h j) u =
    let q : build ar (preorder k ++ (preorder r ++ es)) ≡ join k (build ar (preorder r ++ es)) = build_before (preorder r ++ es) h in
    let a = append_assoc (preorder k) (preorder r) es in
    let x : 0 < suc p → ar (suc p) ≤ trees (build ar ((preorder k ++ preorder r) ++ es)) = λ l. rw (a, q, trees_join k (build ar (preorder r ++ es))) (omega (arith, e)) in
    let y : Fed ar ((preorder k ++ preorder r) ++ es) = rw a (fed_before (preorder r ++ es) h (fed_before es j u)) in
    Fed.cons x y
  where
    trees_join : (f g : Forest) → trees (join f g) ≡ trees f + trees g
    trees_join Forest.nil g = omega arith
    trees_join (Forest.leaf s a x r) g = omega (arith, trees_join r g)
    trees_join (Forest.node s M p k r) g = omega (arith, trees_join r g)

pub fed_preorder : {ar : ℕ → ℕ} {f : Forest} → Formed ar f → Fed ar (preorder f)
fed_preorder {ar} {f} h = rw (append-nil (preorder f)) at (fed_before [] h Fed.nil)

pub leaves_append : (es ds : List Node) → leaves_of (es ++ ds) ≡ leaves_of es ++ leaves_of ds
leaves_append [] ds = refl
leaves_append (e ∷ es) ds = go e.production refl (leaves_append es ds)
  where
    go : (p : ℕ) → e.production ≡ p → leaves_of (es ++ ds) ≡ leaves_of es ++ leaves_of ds → leaves_of (e ∷ (es ++ ds)) ≡ leaves_of (e ∷ es) ++ leaves_of ds
    go zero q h = rw q (ap (λ (u : List Token). record { kind = e.symbol; tag = e.tag } ∷ u) h)
    go (suc p) q h = rw q h

-- they are what the forest yields
pub leaves_yield : {ar : ℕ → ℕ} {f : Forest} → Formed ar f → leaves_of (preorder f) ≡ yield f
leaves_yield Formed.nil = refl
leaves_yield (Formed.leaf {a = a} {g = g} h) = ap (λ (u : List Token). record { kind = a; tag = g } ∷ u) (leaves_yield h)
leaves_yield (Formed.node {k = k} {r = r} e h j) = leaves_append (preorder k) (preorder r) ∙ rw (leaves_yield h, leaves_yield j)

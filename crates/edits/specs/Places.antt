-- The nodes of a forest by number: where each stands, that its number or its place tells it, and where it is in the list of nodes.
use Rattle.std.specs.Prelude.{ℕ, suc, ◌+◌, ◌-◌, ◌≤◌, ◌<◌, ◌≡◌, refl, ◌⊎◌, List, [], ◌∷◌, ◌++◌, length, take}
use Rattle.std.proofs.Common.{sym, ap, ◌∙◌, inl, inr, append_assoc, append-nil, length-append, take_at, arith}
use Rattle.std.proofs.Math.Logic.{by_cases}
use Rattle.std.proofs.Math.Decide.{dec_le, dec_lt}
use Rattle.grammar.specs.Forest.{Token, Forest, size, yield}
use Rattle.trees.specs.Nodes.{Node, inner_node, leaf_node, preorder, leaves_of, back, Formed, leaves_append, leaves_yield}
use Rattle.edits.specs.Keeping.{own, below, beside, At, here, inside, past_leaf, past_node}

-- how many nodes the first tree has
abbrev pub tree_size : Forest → ℕ
tree_size Forest.nil = 0
tree_size (Forest.leaf s a g r) = 1
tree_size (Forest.node s M p k r) = suc (size k)

-- how many tokens a forest has
abbrev pub tokens : Forest → ℕ
tokens f = length (yield f)

-- ---- bounds

-- its number is among the forest's
pub at_number : {i par n j a q m t : ℕ} {F f : Forest} → At i par n j F a q m t f → (i ≤ a) × (a < i + size F)
at_number (here x y z w l) = (omega arith, omega arith)
at_number (inside h) = let r = at_number h in (omega arith, omega arith)
at_number (past_leaf h) = let r = at_number h in (omega arith, omega arith)
at_number (past_node h) = let r = at_number h in (omega arith, omega arith)

-- it is a node
pub at_some : {i par n j a q m t : ℕ} {F f : Forest} → At i par n j F a q m t f → 1 ≤ size f
at_some (here x y z w l) = l
at_some (inside h) = at_some h
at_some (past_leaf h) = at_some h
at_some (past_node h) = at_some h

-- its tokens are among the forest's
pub at_token : {i par n j a q m t : ℕ} {F f : Forest} → At i par n j F a q m t f → (j ≤ t) × (t + own f ≤ j + tokens F)
at_token {F = F} (here x y z w l) = (omega arith, go F w)
  where
    go : {j t : ℕ} (F : Forest) → t ≡ j → t + own F ≤ j + tokens F
    go Forest.nil e = omega arith
    go (Forest.leaf s a g r) e = omega arith
    go (Forest.node s M p k r) e = omega (arith, length-append (yield k) (yield r))
at_token (inside {k = k} {r = r} h) = let o = at_token h in (o.0, omega (arith, length-append (yield k) (yield r)))
at_token (past_leaf h) = let o = at_token h in (omega arith, omega arith)
at_token (past_node {k = k} {r = r} h) = let o = at_token h in (omega arith, omega (arith, length-append (yield k) (yield r)))

-- the parent is the one given, or a node of the forest
pub at_parent : {i par n j a q m t : ℕ} {F f : Forest} → At i par n j F a q m t f → ((q ≡ par) × (n ≤ m)) ⊎ ((i ≤ q) × (q < i + size F))
at_parent (here x y z w l) = inl (y, omega arith)
at_parent (inside {k = k} {r = r} h) = go (at_parent h)
  where
    go : {i q m n par : ℕ} → ((q ≡ i) × (0 ≤ m)) ⊎ ((suc i ≤ q) × (q < suc i + size k)) → ((q ≡ par) × (n ≤ m)) ⊎ ((i ≤ q) × (q < i + suc (size k + size r)))
    go (inl z) = inr (omega arith, omega arith)
    go (inr z) = inr (omega arith, omega arith)
at_parent (past_leaf {r = r} h) = go (at_parent h)
  where
    go : {i q m n par : ℕ} → ((q ≡ par) × (suc n ≤ m)) ⊎ ((suc i ≤ q) × (q < suc i + size r)) → ((q ≡ par) × (n ≤ m)) ⊎ ((i ≤ q) × (q < i + suc (size r)))
    go (inl z) = inl (z.0, omega arith)
    go (inr z) = inr (omega arith, omega arith)
at_parent (past_node {k = k} {r = r} h) = go (at_parent h)
  where
    go : {i q m n par : ℕ} → ((q ≡ par) × (suc n ≤ m)) ⊎ ((suc i + size k ≤ q) × (q < suc i + size k + size r)) → ((q ≡ par) × (n ≤ m)) ⊎ ((i ≤ q) × (q < i + suc (size k + size r)))
    go (inl z) = inl (z.0, omega arith)
    go (inr z) = inr (omega arith, omega arith)

-- the parent has a smaller number
pub at_below_parent : {i par n j a q m t : ℕ} {F f : Forest} → par < i → At i par n j F a q m t f → q < a
at_below_parent o (here x y z w l) = omega arith
at_below_parent o (inside h) = at_below_parent (omega arith) h
at_below_parent o (past_leaf h) = at_below_parent (omega arith) h
at_below_parent o (past_node h) = at_below_parent (omega arith) h

-- ---- a number tells the node

-- two nodes are the same one
pub record Alike (q m t : ℕ) (f : Forest) (q' m' t' : ℕ) (f' : Forest) : Type 0 where
  pub parent : q ≡ q'
  pub child : m ≡ m'
  pub token : t ≡ t'
  pub forest : f ≡ f'

pub at_one : {i par n j a q m t q' m' t' : ℕ} {F f f' : Forest} → At i par n j F a q m t f → At i par n j F a q' m' t' f' → Alike q m t f q' m' t' f'
at_one (here x y z w l) (here x' y' z' w' l') = record { parent = omega arith; child = omega arith; token = omega arith; forest = refl }
at_one (here x y z w l) (inside h) = absurd (omega (arith, (at_number h).0))
at_one (here x y z w l) (past_leaf h) = absurd (omega (arith, (at_number h).0))
at_one (here x y z w l) (past_node h) = absurd (omega (arith, (at_number h).0))
at_one (inside h) (here x y z w l) = absurd (omega (arith, (at_number h).0))
at_one (inside h) (inside h') = at_one h h'
at_one (inside h) (past_node h') = absurd (omega (arith, (at_number h).1, (at_number h').0))
at_one (past_leaf h) (here x y z w l) = absurd (omega (arith, (at_number h).0))
at_one (past_leaf h) (past_leaf h') = at_one h h'
at_one (past_node h) (here x y z w l) = absurd (omega (arith, (at_number h).0))
at_one (past_node h) (inside h') = absurd (omega (arith, (at_number h).0, (at_number h').1))
at_one (past_node h) (past_node h') = at_one h h'

-- every number is a node
pub record Numbered (i par n j : ℕ) (F : Forest) (a : ℕ) : Type 0 where
  pub parent : ℕ
  pub child : ℕ
  pub token : ℕ
  pub forest : Forest
  pub node : At i par n j F a parent child token forest

pub at_node : {i par n j : ℕ} (F : Forest) (a : ℕ) → i ≤ a → a < i + size F → Numbered i par n j F a
at_node Forest.nil a l m = absurd (omega arith)
at_node {i} {par} {n} {j} (Forest.leaf s x g r) a l m = by_cases (dec_le a i)
    (λ z. let e : a ≡ i = omega arith in
    let o : 1 ≤ suc (size r) = omega arith in
    record { parent = par; child = n; token = j; forest = Forest.leaf s x g r; node = here e refl refl refl o })
    (λ z. let q = at_node {i = suc i} {par = par} {n = suc n} {j = suc j} r a (omega arith) (omega arith) in
    record { parent = q.parent; child = q.child; token = q.token; forest = q.forest; node = past_leaf q.node })
at_node {i} {par} {n} {j} (Forest.node s M p k r) a l m = by_cases (dec_le a i)
    (λ z. let e : a ≡ i = omega arith in
    let o : 1 ≤ suc (size k + size r) = omega arith in
    record { parent = par; child = n; token = j; forest = Forest.node s M p k r; node = here e refl refl refl o })
    (λ z. by_cases (dec_lt a (suc i + size k))
    (λ y. let q = at_node {i = suc i} {par = i} {n = 0} {j = j} k a (omega arith) y in
    record { parent = q.parent; child = q.child; token = q.token; forest = q.forest; node = inside q.node })
    (λ y. let q = at_node {i = suc i + size k} {par = par} {n = suc n} {j = j + tokens k} r a (omega arith) (omega arith) in
    record { parent = q.parent; child = q.child; token = q.token; forest = q.forest; node = past_node q.node }))

-- ---- parent and child number tell the node

-- of two places, in and behind a tree's children, or of a tree and behind it, the parents differ
no_parent : {q par n m i e : ℕ} {A : Type 0} → par < i → q ≡ par → m < n → ((q ≡ par) × (n ≤ m)) ⊎ ((i ≤ q) × (q < e)) → A
no_parent l y z (inl r) = absurd (omega arith)
no_parent l y z (inr r) = absurd (omega arith)

not_below : {i par q m e : ℕ} {A : Type 0} → par < i → q ≡ par → ((q ≡ i) × (0 ≤ m)) ⊎ ((suc i ≤ q) × (q < e)) → A
not_below l y (inl r) = absurd (omega arith)
not_below l y (inr r) = absurd (omega arith)

not_both : (s : ℕ) {i par q m n e : ℕ} {A : Type 0} → par < i → ((q ≡ i) × (0 ≤ m)) ⊎ ((suc i ≤ q) × (q < suc i + s)) → ((q ≡ par) × (n ≤ m)) ⊎ ((suc i + s ≤ q) × (q < e)) → A
not_both s l (inl r) (inl o) = absurd (omega arith)
not_both s l (inl r) (inr o) = absurd (omega arith)
not_both s l (inr r) (inl o) = absurd (omega arith)
not_both s l (inr r) (inr o) = absurd (omega arith)

-- parent and child number are those of one node
pub at_child : {i par n j a b q m t t' : ℕ} {F f f' : Forest} → par < i → At i par n j F a q m t f → At i par n j F b q m t' f' → a ≡ b
at_child l (here x y z w o) (here x' y' z' w' o') = omega arith
at_child l (here x y z w o) (inside h) = not_below l y (at_parent h)
at_child l (here x y z w o) (past_leaf h) = no_parent (omega arith) y (omega arith) (at_parent h)
at_child l (here x y z w o) (past_node h) = no_parent (omega arith) y (omega arith) (at_parent h)
at_child l (inside h) (here x y z w o) = not_below l y (at_parent h)
at_child l (inside h) (inside h') = at_child (omega arith) h h'
at_child l (inside {k = k} h) (past_node h') = not_both (size k) l (at_parent h) (at_parent h')
at_child l (past_leaf h) (here x y z w o) = no_parent (omega arith) y (omega arith) (at_parent h)
at_child l (past_leaf h) (past_leaf h') = at_child (omega arith) h h'
at_child l (past_node h) (here x y z w o) = no_parent (omega arith) y (omega arith) (at_parent h)
at_child l (past_node {k = k} h) (inside h') = not_both (size k) l (at_parent h') (at_parent h)
at_child l (past_node h) (past_node h') = at_child (omega arith) h h'

-- ---- from a node to those below it and beside it

-- what stands below a node stands in the forest
pub at_below : {i par n j a q m t b q' m' t' : ℕ} {F f g : Forest} → At i par n j F a q m t f → At (suc a) a 0 t (below f) b q' m' t' g → At i par n j F b q' m' t' g
at_below {i} {j = j} {F = F} (here x y z w l) h = go F (rw (x, w) at h)
  where
    go : {par n b q' m' t' : ℕ} {g : Forest} (F : Forest) → At (suc i) i 0 j (below F) b q' m' t' g → At i par n j F b q' m' t' g
    go Forest.nil (here x y z w l) = absurd (omega arith)
    go (Forest.leaf s a g r) (here x y z w l) = absurd (omega arith)
    go (Forest.node s M p k r) h = inside h
at_below (inside s) h = inside (at_below s h)
at_below (past_leaf s) h = past_leaf (at_below s h)
at_below (past_node s) h = past_node (at_below s h)

-- so does what stands beside it
pub at_beside : {i par n j a q m t b q' m' t' : ℕ} {F f g : Forest} → At i par n j F a q m t f
    → At (a + tree_size f) q (suc m) (t + own f) (beside f) b q' m' t' g → At i par n j F b q' m' t' g
at_beside {i} {par} {n} {j} {F = F} (here x y z w l) h = go F (rw (x, y, z, w) at h)
  where
    go : {b q' m' t' : ℕ} {g : Forest} (F : Forest) → At (i + tree_size F) par (suc n) (j + own F) (beside F) b q' m' t' g → At i par n j F b q' m' t' g
    go Forest.nil (here x y z w l) = absurd (omega arith)
    go (Forest.leaf s a g r) h =
        let x : i + 1 ≡ suc i = omega arith in
        let y : j + 1 ≡ suc j = omega arith in
        past_leaf (rw (x, y) at h)
    go (Forest.node s M p k r) h =
        let x : i + suc (size k) ≡ suc i + size k = omega arith in
        past_node (rw x at h)
at_beside (inside s) h = inside (at_beside s h)
at_beside (past_leaf s) h = past_leaf (at_beside s h)
at_beside (past_node s) h = past_node (at_beside s h)

-- a node's first child, and its next sibling
pub at_first : {i par n j a q m t : ℕ} {F f : Forest} → At i par n j F a q m t f → 1 ≤ size (below f) → At i par n j F (suc a) a 0 t (below f)
at_first h l = at_below h (here refl refl refl refl l)

pub at_next : {i par n j a q m t : ℕ} {F f : Forest} → At i par n j F a q m t f → 1 ≤ size (beside f)
    → At i par n j F (a + tree_size f) q (suc m) (t + own f) (beside f)
at_next h l = at_beside h (here refl refl refl refl l)

-- ---- from a node to its parent

-- f are the trees of F but for the first ones, and its first has the parent q and the child number m
pub record Side (par n : ℕ) (F : Forest) (q m : ℕ) (f : Forest) : Type 0 where
  pub by : ℕ
  pub parent : q ≡ par
  pub child : m ≡ n + by
  pub is : f ≡ back by F

-- node q of F, of whose children f are those from number m on, and start at token t
pub record Parent (i par n j : ℕ) (F : Forest) (q m t : ℕ) (f : Forest) : Type 0 where
  pub parent : ℕ
  pub child : ℕ
  pub token : ℕ
  pub forest : Forest
  pub node : At i par n j F q parent child token forest
  pub is : f ≡ back m (below forest)
  pub early : token ≤ t

-- a node's parent is the one given, or a node of the forest
pub at_up : {i par n j a q m t : ℕ} {F f : Forest} → At i par n j F a q m t f → Side par n F q m f ⊎ Parent i par n j F q m t f
at_up (here x y z w l) = inl (record { by = 0; parent = y; child = omega arith; is = refl })
at_up {i} {par} {n} {j} {q = q} {m = m} {t = t} {f = f} (inside {s = s} {M = M} {p = p} {k = k} {r = r} h) = go (at_token h).0 (at_up h)
  where
    go : j ≤ t → Side i 0 k q m f ⊎ Parent (suc i) i 0 j k q m t f → Side par n (Forest.node s M p k r) q m f ⊎ Parent i par n j (Forest.node s M p k r) q m t f
    go b (inl o) =
        let l : 1 ≤ suc (size k + size r) = omega arith in
        let c : o.by ≡ m = omega (arith, o.child) in
        inr (record { parent = par; child = n; token = j; forest = Forest.node s M p k r; node = here o.parent refl refl refl l; is = o.is ∙ ap (λ (c : ℕ). back c k) c; early = b })
    go b (inr o) = inr (record { parent = o.parent; child = o.child; token = o.token; forest = o.forest; node = inside o.node; is = o.is; early = o.early })
at_up {i} {par} {n} {j} {q = q} {m = m} {t = t} {f = f} (past_leaf {s = s} {x = x} {g = g} {r = r} h) = go (at_up h)
  where
    go : Side par (suc n) r q m f ⊎ Parent (suc i) par (suc n) (suc j) r q m t f → Side par n (Forest.leaf s x g r) q m f ⊎ Parent i par n j (Forest.leaf s x g r) q m t f
    go (inl o) = inl (record { by = suc o.by; parent = o.parent; child = omega (arith, o.child); is = o.is })
    go (inr o) = inr (record { parent = o.parent; child = o.child; token = o.token; forest = o.forest; node = past_leaf o.node; is = o.is; early = o.early })
at_up {i} {par} {n} {j} {q = q} {m = m} {t = t} {f = f} (past_node {s = s} {M = M} {p = p} {k = k} {r = r} h) = go (at_up h)
  where
    go : Side par (suc n) r q m f ⊎ Parent (suc i + size k) par (suc n) (j + tokens k) r q m t f
        → Side par n (Forest.node s M p k r) q m f ⊎ Parent i par n j (Forest.node s M p k r) q m t f
    go (inl o) = inl (record { by = suc o.by; parent = o.parent; child = omega (arith, o.child); is = o.is })
    go (inr o) = inr (record { parent = o.parent; child = o.child; token = o.token; forest = o.forest; node = past_node o.node; is = o.is; early = o.early })

-- ---- where a node is in the list of nodes

-- the nodes before node a, and those behind its siblings; its first token is counted by the leaves before it
pub record Listed (i j : ℕ) (F : Forest) (a t : ℕ) (f : Forest) : Type 0 where
  pub before : List Node
  pub behind : List Node
  pub is : preorder F ≡ before ++ (preorder f ++ behind)
  pub number : a ≡ i + length before
  pub token : t ≡ j + length (leaves_of before)

-- where a node is in the list
pub at_listed : {ar : ℕ → ℕ} {i par n j a q m t : ℕ} {F f : Forest} → Formed ar F → At i par n j F a q m t f → Listed i j F a t f
at_listed {F = F} d (here x y z w l) =
    record { before = []; behind = []; is = sym (append-nil (preorder F)); number = omega arith; token = omega arith }
at_listed (Formed.leaf {s = s} {a = b} {g = g} d) (past_leaf h) =
    let o = at_listed d h in
    record {
      before = leaf_node s b g ∷ o.before;
      behind = o.behind;
      is = ap (λ (u : List Node). leaf_node s b g ∷ u) o.is;
      number = omega (arith, o.number);
      token = omega (arith, o.token);
    }
at_listed {f = f} (Formed.node {s = s} {M = M} {p = p} {k = k} {r = r} e c d) (inside h) =
    let o = at_listed c h in
    record {
      before = inner_node s M (suc p) ∷ o.before;
      behind = o.behind ++ preorder r;
      is = ap (λ (u : List Node). inner_node s M (suc p) ∷ u)
          (ap (λ (u : List Node). u ++ preorder r) o.is ∙ append_assoc o.before (preorder f ++ o.behind) (preorder r)
          ∙ ap (λ (u : List Node). o.before ++ u) (append_assoc (preorder f) o.behind (preorder r)));
      number = omega (arith, o.number);
      token = o.token;
    }
at_listed {f = f} (Formed.node {s = s} {M = M} {p = p} {k = k} {r = r} e c d) (past_node h) =
    let o = at_listed d h in
    record {
      before = inner_node s M (suc p) ∷ (preorder k ++ o.before);
      behind = o.behind;
      is = ap (λ (u : List Node). inner_node s M (suc p) ∷ u)
          (ap (λ (u : List Node). preorder k ++ u) o.is ∙ sym (append_assoc (preorder k) o.before (preorder f ++ o.behind)));
      number = omega (arith, o.number, length-append (preorder k) o.before, preorder_size k);
      token = omega (
        arith,
        o.token,
        ap (λ (w : List Token). length w) (leaves_append (preorder k) o.before ∙ ap (λ (u : List Token). u ++ leaves_of o.before) (leaves_yield c)),
        length-append (yield k) (leaves_of o.before),
      );
    }
  where
    preorder_size : (k : Forest) → length (preorder k) ≡ size k
    preorder_size Forest.nil = refl
    preorder_size (Forest.leaf s a g r) = ap suc (preorder_size r)
    preorder_size (Forest.node s M p k r) = omega (arith, length-append (preorder k) (preorder r), preorder_size k, preorder_size r)

-- of a tree: the leaves among the first a - 1 nodes
pub at_leaves : {ar : ℕ → ℕ} {a q m t : ℕ} {F f : Forest} → Formed ar F → At 1 0 0 0 F a q m t f → t ≡ length (leaves_of (take (a - 1) (preorder F)))
at_leaves {a = a} {F = F} {f = f} d h =
    let o = at_listed d h in
    let e : take (a - 1) (preorder F) ≡ o.before = ap (take (a - 1)) o.is ∙ take_at o.before (preorder f ++ o.behind) (a - 1) (omega (arith, o.number)) in
    omega (arith, o.token, ap (λ (u : List Node). length (leaves_of u)) e)

-- the list from node a on begins with its subtree and its siblings

-- "Kept nodes that start after the removed run carry their whole subtree along"; so do those without tokens.
use Rattle.std.specs.Prelude.{ℕ, zero, suc, ◌+◌, ◌-◌, ◌≤◌, ◌<◌, ◌≡◌, refl, ◌⊎◌, List, [], ◌∷◌, ◌++◌, length, drop}
use Rattle.std.proofs.Common.{sym, ap, ◌∙◌, subst, inl, inr, append_assoc, append-nil, length-append, arith}
use Rattle.std.proofs.Math.Logic.{by_cases}
use Rattle.std.proofs.Math.Decide.{dec_lt}
use Rattle.grammar.specs.Grammar.{Grammar}
use Rattle.grammar.specs.Forest.{Token, Forest, size, yield}
use Rattle.plain.specs.Traced.{Same}
use Rattle.plain.specs.Alike.{same_yield, same_size}
use Rattle.edits.specs.Keeping.{Edit, Kept, before, after, symbol, own, below, beside, At, here, inside, past_leaf, past_node, Node, Keeps}
use Rattle.edits.specs.Places.{tokens, tree_size, at_number, at_some, at_one, at_below}
use Rattle.edits.specs.Guided.{Guided, Agree, agree_self, guided_same, void_same}
use Rattle.edits.specs.Stems.{topped, from_node}
use Rattle.edits.specs.Edited.{Trees, same_after}
use Rattle.edits.specs.Productions.{keeps_same}

-- ---- the first tree of a forest

-- it alone
abbrev pub first : Forest → Forest
first Forest.nil = Forest.nil
first (Forest.leaf s a g r) = Forest.leaf s a g Forest.nil
first (Forest.node s M p k r) = Forest.node s M p k Forest.nil

-- its tokens, then those of the trees beside it
first_yield : (f : Forest) → yield f ≡ yield (first f) ++ yield (beside f)
first_yield Forest.nil = refl
first_yield (Forest.leaf s a g r) = refl
first_yield (Forest.node s M p k r) = rw (append-nil (yield k))

-- its tokens are as many
first_own : (f : Forest) → tokens (first f) ≡ own f
first_own Forest.nil = refl
first_own (Forest.leaf s a g r) = refl
first_own (Forest.node s M p k r) = rw (append-nil (yield k))

-- trees that differ in slots only have such children
pub first_below : (f f' : Forest) → Same (first f) (first f') → Same (below f) (below f')
first_below Forest.nil Forest.nil h = Same.nil
first_below (Forest.leaf s a g r) (Forest.leaf s' a' g' r') h = Same.nil
first_below (Forest.node s M p k r) (Forest.node s' M' p' k' r') (Same.node h i) = h
first_below _ _ h = elim h [ ]

-- a node's children have no more tokens than it
pub below_tokens : (f : Forest) → tokens (below f) ≤ own f
below_tokens Forest.nil = omega arith
below_tokens (Forest.leaf s a g r) = omega arith
below_tokens (Forest.node s M p k r) = omega arith

-- a tree has one node more than stand below its top
pub tree_size_lem : (f : Forest) → tree_size f ≤ suc (size (below f))
tree_size_lem Forest.nil = omega arith
tree_size_lem (Forest.leaf s a g r) = omega arith
tree_size_lem (Forest.node s M p k r) = omega arith

module _ {G : Grammar} where
  -- it is guided, before the trees beside it
  guided_first : {u : List Token} {x : ℕ} {xs : List ℕ} {f : Forest} → Guided G u (x ∷ xs) f → Guided G (yield (beside f) ++ u) (x ∷ []) (first f)
  guided_first (Guided.leaf t d) = Guided.leaf t Guided.nil
  guided_first (Guided.node m e l r k d) = Guided.node m e l r k Guided.nil

-- ---- two trees that differ in slots only, in the same place below kept nodes: each node of the one is kept by that of the other

module _ (e : Edit) (old new : Forest) where
  -- of two nodes of one symbol with as many tokens
  top_kept : {i par n j i' par' j' : ℕ} {f f' : Forest} → symbol f' ≡ symbol f → own f' ≡ own f → Keeps e old new par' par → Node old i par n j f → Node new i' par' n j' f'
      → (1 ≤ own f → Kept e j' j) → Keeps e old new i' i
  top_kept {f = f} {f' = f'} x y k o p t =
      by_cases (dec_lt 0 (own f))
      (λ z. let v : 1 ≤ own f' = omega (arith, y, z) in Keeps.full p o (t z) x v z)
      (λ z. let v : own f ≡ 0 = omega (arith, z) in Keeps.void p o k (y ∙ v) v)

  -- the nodes of k are nodes of F
  abbrev Up : Forest → Forest → (i par n j : ℕ) → Type 0
  Up F k i par n j = (a q m t : ℕ) (f : Forest) → At i par n j k a q m t f → Node F a q m t f

  -- the same with the numbers written otherwise
  kept_as : {a b c d : ℕ} → a ≡ b → c ≡ d → Kept e a c → Kept e b d
  kept_as x y h = rw (← x, ← y) h

  keeps_as : {a b c d : ℕ} → a ≡ b → c ≡ d → Keeps e old new a c → Keeps e old new b d
  keeps_as x y h = rw (← x, ← y) h

  -- node c of the one keeps the slot of node c of the other
  carry : {k k' : Forest} (i par n j i' par' j' : ℕ) → Same k k' → Keeps e old new par' par → Up old k i par n j → Up new k' i' par' n j'
      → ((o : ℕ) → o < tokens k → Kept e (j' + o) (j + o)) → (c : ℕ) → c < size k → Keeps e old new (i' + c) (i + c)
  carry i par n j i' par' j' Same.nil h up up' tok c l = absurd (omega arith)
  carry i par n j i' par' j' (Same.leaf {s = s} {s' = s'} {x = x} {g = g} {r = r} {r' = r'} q) h up up' tok zero l =
      let v : 1 ≤ suc (size r) = omega arith in
      let w : 1 ≤ suc (size r') = omega arith in
      top_kept refl refl h
      (up (i + 0) par n j (Forest.leaf s x g r) (here (omega arith) refl refl refl v))
      (up' (i' + 0) par' n j' (Forest.leaf s' x g r') (here (omega arith) refl refl refl w))
      (λ z. kept_as (omega arith) (omega arith) (tok 0 (omega arith)))
  carry i par n j i' par' j' (Same.leaf q) h up up' tok (suc c) l =
      keeps_as (omega arith) (omega arith)
      (carry (suc i) par (suc n) (suc j) (suc i') par' (suc j') q h
      (λ a q m t f w. up a q m t f (past_leaf w)) (λ a q m t f w. up' a q m t f (past_leaf w))
      (λ o z. kept_as (omega arith) (omega arith) (tok (suc o) (omega arith))) c (omega arith))
  carry i par n j i' par' j' (Same.node {s = s} {s' = s'} {M = M} {p = p} {k = k} {k' = k'} {r = r} {r' = r'} q q') h up up' tok zero l =
      let v : 1 ≤ suc (size k + size r) = omega arith in
      let w : 1 ≤ suc (size k' + size r') = omega arith in
      top_kept refl (sym (ap (λ (w : List Token). length w) (same_yield q))) h
      (up (i + 0) par n j (Forest.node s M p k r) (here (omega arith) refl refl refl v))
      (up' (i' + 0) par' n j' (Forest.node s' M p k' r') (here (omega arith) refl refl refl w))
      (λ z. kept_as (omega arith) (omega arith) (tok 0 (omega (arith, length-append (yield k) (yield r)))))
  carry i par n j i' par' j' (Same.node {s = s} {s' = s'} {M = M} {p = p} {k = k} {k' = k'} {r = r} {r' = r'} q q') h up up' tok (suc c) l =
      let x = same_size q in
      let y : tokens k ≡ tokens k' = ap (λ (w : List Token). length w) (same_yield q) in
      let z = length-append (yield k) (yield r) in
      let v : 1 ≤ suc (size k + size r) = omega arith in
      let w : 1 ≤ suc (size k' + size r') = omega arith in
      let it : Keeps e old new i' i =
      top_kept refl (sym y) h
      (up i par n j (Forest.node s M p k r) (here refl refl refl refl v))
      (up' i' par' n j' (Forest.node s' M p k' r') (here refl refl refl refl w))
      (λ m. kept_as (omega arith) (omega arith) (tok 0 (omega arith))) in
      by_cases (dec_lt c (size k))
      (λ m. keeps_as (omega arith) (omega arith)
      (carry (suc i) i 0 j (suc i') i' j' q it (λ a q m t f w. up a q m t f (inside w)) (λ a q m t f w. up' a q m t f (inside w)) (λ o m. tok o (omega arith)) c m))
      (λ m. keeps_as (omega arith) (omega arith)
      (carry (suc i + size k) par (suc n) (j + tokens k) (suc i' + size k') par' (j' + tokens k') q' h
      (λ a q m t f w. up a q m t f (past_node w)) (λ a q m t f w. up' a q m t f (past_node w))
      (λ o m. kept_as (omega arith) (omega arith) (tok (tokens k + o) (omega arith))) (c - size k) (omega arith)))

-- ---- the kept nodes

-- the whole subtree of a node is kept by that of another, and they differ in slots only
pub record Carried (e : Edit) (old new : Forest) (a' : ℕ) (f' : Forest) (a : ℕ) (f : Forest) : Type 0 where
  pub same : Same (first f) (first f')
  pub each : (c : ℕ) → c < tree_size f → Keeps e old new (a' + c) (a + c)

-- a tree has a node
tree_some : (f : Forest) → 1 ≤ size f → 0 < tree_size f
tree_some Forest.nil l = absurd (omega arith)
tree_some (Forest.leaf s a g r) l = omega arith
tree_some (Forest.node s M p k r) l = omega arith

-- the node itself is kept
pub carried_keeps : {e : Edit} {old new : Forest} {a' a : ℕ} {f' f : Forest} → Carried e old new a' f' a f → 1 ≤ size f → Keeps e old new a' a
carried_keeps {e} {old} {new} {f = f} c l = keeps_as e old new (omega arith) (omega arith) (c.each 0 (tree_some f l))

-- a kept node starts with a kept token, or has none
pub keeps_start : {e : Edit} {old new : Forest} {a' q' m' t' a q m t : ℕ} {f' f : Forest} → Keeps e old new a' a → Node new a' q' m' t' f' → Node old a q m t f
    → Kept e t' t ⊎ ((own f' ≡ 0) × (own f ≡ 0))
keeps_start (Keeps.above x y) n' o' = absurd (omega (arith, (at_number n').0))
keeps_start {e} {old} {new} (Keeps.full n o k s l l') n' o' = inl (kept_as e old new (at_one n n').token (at_one o o').token k)
keeps_start (Keeps.void n o k l l') n' o' = inr (ap own (at_one n' n).forest ∙ l, ap own (at_one o' o).forest ∙ l')

module _ {G : Grammar} {e : Edit} {old new : Forest} (h : Trees G e old new) where
  -- where the subtrees differ in slots only, and their tokens are kept
  carried : {a' q' m' t' a q m t : ℕ} {f' f : Forest} → Keeps e old new a' a → Node new a' q' m' t' f' → Node old a q m t f → Same (first f) (first f')
      → ((i : ℕ) → i < tokens (below f) → Kept e (t' + i) (t + i)) → Carried e old new a' f' a f
  carried {a'} {t' = t'} {a = a} {t = t} {f' = f'} {f = f} k n o s tok = record { same = s; each = go }
    where
      go : (c : ℕ) → c < tree_size f → Keeps e old new (a' + c) (a + c)
      go zero l = keeps_as e old new (omega arith) (omega arith) k
      go (suc c) l =
          keeps_as e old new (omega arith) (omega arith)
          (carry e old new (suc a) a 0 t (suc a') a' t' (first_below f f' s) k (λ b q m u g w. at_below o w) (λ b q m u g w. at_below n w) tok c (omega (arith, tree_size_lem f)))

  -- a kept node without tokens, wherever it starts
  pub void_carries : {a' q' m' t' a q m t : ℕ} {f' f : Forest} → Keeps e old new a' a → Node new a' q' m' t' f' → Node old a q m t f → own f' ≡ 0 → own f ≡ 0
      → Carried e old new a' f' a f
  void_carries {f' = f'} {f = f} k n o l l' =
      let x = topped (from_node h.prepared h.first o).guided (at_some o) in
      let y = topped (from_node h.prepared h.second n).guided (at_some n) in
      let s = (keeps_same h k n o).0 in
      let z = void_same h.prepared (guided_first x.1) (guided_first (rw s at y.1)) (first_own f ∙ l') (first_own f' ∙ l) in
      carried k n o z (λ i m. absurd (omega (arith, below_tokens f)))

  -- a kept node that starts after the removed run
  pub after_carries : {a' q' m' t' a q m t : ℕ} {f' f : Forest} → Keeps e old new a' a → Node new a' q' m' t' f' → Node old a q m t f → e.place + e.removed ≤ t
      → Carried e old new a' f' a f
  after_carries {a'} {q'} {m'} {t'} {a} {q} {m} {t} {f'} {f} k n o l = go (keeps_start k n o)
    where
      same : (d : ℕ) → t' ≡ e.place + length e.inserted + d → t ≡ e.place + e.removed + d → Same (first f) (first f')
      same d i j =
          let x = from_node h.prepared h.first o in
          let y = from_node h.prepared h.second n in
          let u = yield (beside f) ++ x.behind in
          let v = yield (beside f') ++ y.behind in
          let s = (keeps_same h k n o).0 in
          let z : yield (first f) ++ u ≡ yield (first f') ++ v =
          sym (x.reads ∙ ap (λ (w : List Token). w ++ x.behind) (first_yield f) ∙ append_assoc (yield (first f)) (yield (beside f)) x.behind)
          ∙ ap (λ (c : ℕ). drop c (yield old)) j ∙ sym (same_after h d) ∙ ap (λ (c : ℕ). drop c (yield new)) (sym i)
          ∙ (y.reads ∙ ap (λ (w : List Token). w ++ y.behind) (first_yield f') ∙ append_assoc (yield (first f')) (yield (beside f')) y.behind) in
          let c = tokens (first f) + 0 in
          (guided_same h.prepared 0 u v (guided_first (topped x.guided (at_some o)).1) (guided_first (rw s at (topped y.guided (at_some n)).1))
          (subst (λ (w : List Token). Agree c (yield (first f) ++ u) w) z (agree_self c (yield (first f) ++ u)))).0

      go : Kept e t' t ⊎ ((own f' ≡ 0) × (own f ≡ 0)) → Carried e old new a' f' a f
      go (inl (before i j)) = absurd (omega arith)
      go (inl (after d i j)) = carried k n o (same d i j) tok
        where
          tok : (c : ℕ) → c < tokens (below f) → Kept e (t' + c) (t + c)
          tok c m =
              let x : t' + c ≡ e.place + length e.inserted + (d + c) = omega arith in
              let y : t + c ≡ e.place + e.removed + (d + c) = omega arith in
              after (d + c) x y
      go (inr z) = void_carries k n o z.0 z.1

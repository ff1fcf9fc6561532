-- At most one node of a symbol starts with a token: the nodes before a forest's first leaf are known from its symbols and the lookahead.
use Rattle.std.specs.Prelude.{ℕ, zero, suc, ◌+◌, ◌≤◌, ◌≡◌, refl, List, [], ◌∷◌, ◌++◌, length, drop}
use Rattle.std.proofs.Common.{sym, ap, ◌∙◌, subst, append_assoc, append-nil, drop-drop, arith}
use Rattle.std.proofs.Math.Seq.{drop-append_seam}
use Rattle.grammar.specs.Grammar.{Grammar}
use Rattle.grammar.specs.Prediction.{Prepared}
use Rattle.grammar.specs.Forest.{Token, Forest, size, yield, Derives}
use Rattle.plain.specs.Plain.{ahead}
use Rattle.edits.specs.Keeping.{symbol, own, production, below, At, here, inside, past_leaf, past_node, Node}
use Rattle.edits.specs.Places.{tokens, at_some, at_token}
use Rattle.edits.specs.Guided.{Guided, guided_tree, predicts_one}

-- ---- how many nodes stand before the first leaf

-- those of m, and, where they have no tokens, those of n too
abbrev pub chain : ℕ → ℕ → ℕ → ℕ
chain zero m n = m + n
chain (suc t) m n = m

-- of a forest
abbrev pub stem : Forest → ℕ
stem Forest.nil = 0
stem (Forest.leaf s a g r) = 0
stem (Forest.node s M p k r) = suc (chain (tokens k) (stem k) (stem r))

-- m counts, and n too where m has no tokens, and only there
chain_left : (t m n : ℕ) → m ≤ chain t m n
chain_left zero m n = omega arith
chain_left (suc t) m n = omega arith

chain_right : (t m n : ℕ) → t ≡ 0 → n ≤ chain t m n
chain_right zero m n e = omega arith
chain_right (suc t) m n e = absurd (omega arith)

chain_some : (t m n : ℕ) → 1 ≤ t → chain t m n ≡ m
chain_some zero m n h = absurd (omega arith)
chain_some (suc t) m n h = refl

-- both have tokens, or none has
abbrev pub Both : ℕ → ℕ → Type 0
Both zero zero = Unit {0}
Both zero (suc n) = ⊥
Both (suc m) zero = ⊥
Both (suc m) (suc n) = Unit {0}

-- where the one has tokens, so has the other
pub both_some : (m n : ℕ) → Both m n → 1 ≤ m → 1 ≤ n
both_some zero zero h l = l
both_some zero (suc n) h l = absurd h
both_some (suc m) zero h l = absurd h
both_some (suc m) (suc n) h l = omega arith

-- a node, and what stands beside it
step : (k l r o u v : List Token) {m n i j : ℕ} → m ≡ n → Both (length k) (length l) → ahead (k ++ (r ++ u)) ≡ ahead (l ++ (o ++ v))
    → (ahead (r ++ u) ≡ ahead (o ++ v) → (i ≡ j) × Both (length r) (length o))
    → (suc (chain (length k) m i) ≡ suc (chain (length l) n j)) × Both (length (k ++ r)) (length (l ++ o))
step [] [] r o u v e t h next = let q = next h in let z = q.0 in (cc, q.1)
step [] (x ∷ l) r o u v e t h next = absurd t
step (x ∷ k) [] r o u v e t h next = absurd t
step (x ∷ k) (y ∷ l) r o u v e t h next = (cc, tt)

-- of a forest's nodes, those that start with its first token stand before no more nodes than it
stem_less : {i par n j a q m t : ℕ} {F f : Forest} → At i par n j F a q m t f → t ≡ j → stem f ≤ stem F
stem_less (here x y z w l) o = omega arith
stem_less (inside {k = k} {r = r} s) o = omega (arith, stem_less s o, chain_left (tokens k) (stem k) (stem r))
stem_less (past_leaf s) o = absurd (omega (arith, (at_token s).0))
stem_less (past_node {k = k} {r = r} s) o =
    let x = (at_token s).0 in
    omega (arith, stem_less s (omega arith), chain_right (tokens k) (stem k) (stem r) (omega arith))

-- ---- what stands from a node on, in a sentence w

-- it is guided, before what the sentence has behind it
pub record From (G : Grammar) (w : List Token) (t : ℕ) (f : Forest) : Type 0 where
  pub symbols : List ℕ
  pub behind : List Token
  pub guided : Guided G behind symbols f
  pub reads : drop t w ≡ yield f ++ behind

-- what the sentence has behind a leaf, and behind a node
reads_leaf : (w : List Token) (j : ℕ) {x : Token} {v : List Token} → drop j w ≡ x ∷ v → drop (suc j) w ≡ v
reads_leaf w j e =
    let z : j + 1 ≡ suc j = omega arith in
    rw z at (sym (drop-drop 1 j w) ∙ ap (drop 1) e)

reads_node : (w : List Token) (j : ℕ) (k r u : List Token) → drop j w ≡ (k ++ r) ++ u → drop (j + length k) w ≡ r ++ u
reads_node w j k r u e = sym (drop-drop (length k) j w) ∙ ap (drop (length k)) (e ∙ append_assoc k r u) ∙ drop-append_seam k (r ++ u)

module _ {G : Grammar} (w : List Token) where
  -- so it is from every node of a guided forest on
  pub from : {i par n j a q m t : ℕ} {xs : List ℕ} {F f : Forest} (u : List Token) → Guided G u xs F → drop j w ≡ yield F ++ u → At i par n j F a q m t f → From G w t f
  from {xs = xs} u d e (here x y z o l) = record { symbols = xs; behind = u; guided = d; reads = rw o e }
  from u (Guided.node {k = k} {r = r} m p l o c d) e (inside s) = from (yield r ++ u) c (e ∙ append_assoc (yield k) (yield r) u) s
  from {j = j} u (Guided.leaf t d) e (past_leaf s) = from u d (reads_leaf w j e) s
  from {j = j} u (Guided.node {k = k} {r = r} m p l o c d) e (past_node s) = from u d (reads_node w j (yield k) (yield r) u e) s

module _ {G : Grammar} where
  -- the first of the symbols is the first tree's
  pub heads : {u : List Token} {xs : List ℕ} {f : Forest} → Guided G u xs f → 1 ≤ size f → (ys : List ℕ) × (xs ≡ symbol f ∷ ys)
  heads Guided.nil h = absurd (omega arith)
  heads (Guided.leaf {xs = xs} t d) h = (xs, refl)
  heads (Guided.node {xs = xs} m e l r k d) h = (xs, refl)

  -- the symbols begin with that of the first tree
  pub topped : {u : List Token} {xs : List ℕ} {f : Forest} → Guided G u xs f → 1 ≤ size f → (ys : List ℕ) × Guided G u (symbol f ∷ ys) f
  topped {u} {f = f} d h = let o = heads d h in (o.0, subst (λ (ys : List ℕ). Guided G u ys f) o.1 d)

module _ {G : Grammar} (g : Prepared G) where
  -- a forest is known up to its first leaf from its symbols and the lookahead
  pub stem_same : {u v : List Token} {xs : List ℕ} {f f' : Forest} → Guided G u xs f → Guided G v xs f' → ahead (yield f ++ u) ≡ ahead (yield f' ++ v)
      → (stem f ≡ stem f') × Both (tokens f) (tokens f')
  stem_same Guided.nil Guided.nil h = (refl, tt)
  stem_same (Guided.leaf t d) (Guided.leaf t' d') h = (refl, tt)
  stem_same (Guided.leaf t d) (Guided.node m e l r k d') h = absurd (omega (arith, t.1, m.0))
  stem_same (Guided.node m e l r k d) (Guided.leaf t d') h = absurd (omega (arith, t.1, m.0))
  stem_same {u} {v} (Guided.node {k = k} {r = f} m e l r c d) (Guided.node {k = k'} {r = f'} m' e' l' r' c' d') h =
      let h' : ahead (yield k ++ (yield f ++ u)) ≡ ahead (yield k' ++ (yield f' ++ v)) = rw (append_assoc (yield k) (yield f) u, append_assoc (yield k') (yield f') v) at h in
      let o = predicts_one g e e' h' r r' in
      let x = stem_same c (subst (λ (δ : List ℕ). Guided G (yield f' ++ v) δ k') o.1 c') h' in
      step (yield k) (yield k') (yield f) (yield f') u v x.0 x.1 h' (λ z. stem_same d d' z)

  -- two nodes of one symbol before the same lookahead: the same production, and children that are alike up to their first leaf
  pub tops : {u v : List Token} {x : ℕ} {xs ys : List ℕ} {f f' : Forest} → Guided G u (x ∷ xs) f → Guided G v (x ∷ ys) f' → ahead (yield f ++ u) ≡ ahead (yield f' ++ v)
      → (production f ≡ production f') × (stem (below f) ≡ stem (below f')) × Both (own f) (own f')
  tops (Guided.leaf t d) (Guided.leaf t' d') h = (refl, refl, tt)
  tops (Guided.leaf t d) (Guided.node m e l r k d') h = absurd (omega (arith, t.1, m.0))
  tops (Guided.node m e l r k d) (Guided.leaf t d') h = absurd (omega (arith, t.1, m.0))
  tops {u} {v} (Guided.node {k = k} {r = f} m e l r c d) (Guided.node {k = k'} {r = f'} m' e' l' r' c' d') h =
      let h' : ahead (yield k ++ (yield f ++ u)) ≡ ahead (yield k' ++ (yield f' ++ v)) = rw (append_assoc (yield k) (yield f) u, append_assoc (yield k') (yield f') v) at h in
      let o = predicts_one g e e' h' r r' in
      let x = stem_same c (subst (λ (δ : List ℕ). Guided G (yield f' ++ v) δ k') o.1 c') h' in
      (o.0, x.0, x.1)

  -- what follows, with a symbol of its own in the node
  grows_from : {u v : List Token} {s x y p : ℕ} {xs ys : List ℕ} {k r f : Forest}
      → Guided G u (x ∷ xs) (Forest.node s y p k r) → Guided G v (x ∷ ys) f
      → ahead ((yield k ++ yield r) ++ u) ≡ ahead (yield f ++ v) → 1 ≤ own f → stem f ≡ suc (stem k)
  grows_from (Guided.node m e l r c d) (Guided.leaf t d') h o = absurd (omega (arith, t.1, m.0))
  grows_from {s = s} (Guided.node m e l r c d) (Guided.node {s = s'} {k = k} {r = f} m' e' l' r' c' d') h o =
      let q = tops (Guided.node {s = s} m e l r c d) (Guided.node {s = s'} m' e' l' r' c' d') h in
      omega (arith, q.1, chain_some (tokens k) (stem k) (stem f) o)

  -- where a node has tokens, one node more stands before its first leaf than in its children
  grows : {u v : List Token} {s x p : ℕ} {xs ys : List ℕ} {k r f : Forest}
      → Guided G u (x ∷ xs) (Forest.node s x p k r) → Guided G v (x ∷ ys) f
      → ahead ((yield k ++ yield r) ++ u) ≡ ahead (yield f ++ v) → 1 ≤ own f → stem f ≡ suc (stem k)
  grows d d' h o = grows_from d d' h o

  -- below a node, none of its symbol starts with its first token
  no_nest : (w : List Token) {i par n j a q m t s M p : ℕ} {xs : List ℕ} {k r f : Forest} (u : List Token) → Guided G u xs (Forest.node s M p k r)
      → drop j w ≡ (yield k ++ yield r) ++ u → At i par n j k a q m t f → t ≡ j → 1 ≤ own f → symbol f ≡ M → ⊥
  no_nest w {j = j} {s = s} {k = k} {r = r} {f = f} u (Guided.node m e l o c d) h b z y x =
      let q = from w (yield r ++ u) c (h ∙ append_assoc (yield k) (yield r) u) b in
      let c' = topped q.guided (at_some b) in
      let v : ahead ((yield k ++ yield r) ++ u) ≡ ahead (yield f ++ q.behind) = ap ahead (sym h ∙ ap (λ (n : ℕ). drop n w) (sym z) ∙ q.reads) in
      let n : stem f ≡ suc (stem k) = grows (Guided.node {s = s} m e l o c d) (rw x at c'.1) v y in
      omega (arith, stem_less b z)

  -- of a guided forest, first token and symbol tell the node
  starts_one : (w : List Token) {i par n j a b q q' m m' t : ℕ} {xs : List ℕ} {F f f' : Forest} (u : List Token) → Guided G u xs F → drop j w ≡ yield F ++ u
      → At i par n j F a q m t f → At i par n j F b q' m' t f' → 1 ≤ own f → 1 ≤ own f' → symbol f ≡ symbol f' → a ≡ b
  starts_one w u d e (here x y z o l) (here x' y' z' o' l') p p' h = omega arith
  starts_one w u d e (here x y z o l) (inside s) p p' h = absurd (no_nest w u d e s o p' (sym h))
  starts_one w u d e (here x y z o l) (past_leaf s) p p' h = absurd (omega (arith, (at_token s).0))
  starts_one w u d e (here x y z o l) (past_node s) p p' h = absurd (omega (arith, (at_token s).0))
  starts_one w u d e (inside s) (here x y z o l) p p' h = absurd (no_nest w u d e s o p h)
  starts_one w u (Guided.node {k = k} {r = r} m c l o d d') e (inside s) (inside s') p p' h =
      starts_one w (yield r ++ u) d (e ∙ append_assoc (yield k) (yield r) u) s s' p p' h
  starts_one w u d e (inside s) (past_node s') p p' h = absurd (omega (arith, (at_token s).1, (at_token s').0))
  starts_one w u d e (past_leaf s) (here x y z o l) p p' h = absurd (omega (arith, (at_token s).0))
  starts_one w {j = j} u (Guided.leaf t d) e (past_leaf s) (past_leaf s') p p' h = starts_one w u d (reads_leaf w j e) s s' p p' h
  starts_one w u d e (past_node s) (here x y z o l) p p' h = absurd (omega (arith, (at_token s).0))
  starts_one w u d e (past_node s) (inside s') p p' h = absurd (omega (arith, (at_token s).0, (at_token s').1))
  starts_one w {j = j} u (Guided.node {k = k} {r = r} m c l o d d') e (past_node s) (past_node s') p p' h =
      starts_one w u d' (reads_node w j (yield k) (yield r) u e) s s' p p' h

  -- "There is at most one such node in each": of a derivation tree, first token and symbol tell the node, if it has tokens
  pub at_start : {a b q q' m m' t : ℕ} {F f f' : Forest} → Derives G (G.start ∷ []) F → Node F a q m t f → Node F b q' m' t f' → 1 ≤ own f → 1 ≤ own f'
      → symbol f ≡ symbol f' → a ≡ b
  at_start {F = F} d x y o o' h = starts_one (yield F ++ []) [] (guided_tree g d) refl x y o o' h

  -- what stands from any of its nodes on
  pub from_node : {a q m t : ℕ} {F f : Forest} → Derives G (G.start ∷ []) F → Node F a q m t f → From G (yield F) t f
  from_node {F = F} d h = rw (append-nil (yield F)) at (from (yield F ++ []) [] (guided_tree g d) refl h)

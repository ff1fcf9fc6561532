-- A derivation tree and the lookaheads at its nodes: two forests of the same symbols, over tokens that begin alike, are alike as far as that goes.
use Rattle.std.specs.Prelude.{ℕ, zero, suc, ◌+◌, ◌≡◌, refl, List, [], ◌∷◌, ◌++◌, length}
use Rattle.std.proofs.Common.{sym, ap, subst, append_assoc, append-nil, length-append, arith}
use Rattle.grammar.specs.Limits.{end_mark}
use Rattle.grammar.specs.Each.{Each, each_join}
use Rattle.grammar.specs.Grammar.{Grammar, Rule, Terminal, Nonterminal, WellFormed}
use Rattle.grammar.specs.Rules.{rule_one, rule_left}
use Rattle.grammar.specs.Derivation.{at, Steps, stop, then, Follow}
use Rattle.grammar.specs.Prediction.{Predicts, by_follow, Prepared}
use Rattle.grammar.specs.Single.{ll1_one}
use Rattle.grammar.specs.Forest.{Token, kinds, Forest, yield, Derives}
use Rattle.grammar.specs.Trees.{kinds_append, trans, steps_in, steps_of}
use Rattle.plain.specs.Plain.{ahead}
use Rattle.plain.specs.Traced.{Same, front_append, follows, terminals, predicted}
use Rattle.edits.specs.Keeping.{own, production}
use Rattle.edits.specs.Places.{tokens}

-- the forest's trees derive the symbols, where the tokens u come behind the forest: at each node the lookahead predicts its production, and what comes behind it follows its symbol
pub data Guided (G : Grammar) : List Token → List ℕ → Forest → Type 0 where
  nil : {u : List Token} → Guided G u [] Forest.nil
  leaf : {u : List Token} {s a g : ℕ} {xs : List ℕ} {r : Forest} → Terminal G a → Guided G u xs r → Guided G u (a ∷ xs) (Forest.leaf s a g r)
  node : {u : List Token} {s M p : ℕ} {γ xs : List ℕ} {k r : Forest} → Nonterminal G M → Predicts G M (ahead (yield k ++ (yield r ++ u))) p → Follow G M (ahead (yield r ++ u))
      → Rule G p M γ → Guided G (yield r ++ u) γ k → Guided G u xs r → Guided G u (M ∷ xs) (Forest.node s M p k r)

module _ {G : Grammar} where
  -- a forest in its place in a sentence: α stands before it, and ys, which derive w, behind it
  guided : (α ys : List ℕ) (w : List Token) {xs : List ℕ} {f : Forest} → WellFormed G → Derives G xs f → Each (Terminal G) (kinds w)
      → Steps G (G.start ∷ []) (α ++ (xs ++ ys)) → Steps G ys (kinds w) → Guided G w xs f
  guided α ys w o Derives.nil t s z = Guided.nil
  guided α ys w o (Derives.leaf {a = a} {xs = xs} x d) t s z = Guided.leaf x (guided (α ++ a ∷ []) ys w o d t (rw (append_assoc α (a ∷ []) (xs ++ ys)) s) z)
  guided α ys w o (Derives.node {M = M} {p = p} {γ = γ} {xs = xs} {k = k} {r = f} r e d) t s z =
      let i : Steps G (xs ++ ys) (kinds (yield f ++ w)) =
      rw (kinds_append (yield f) w) (trans (steps_in [] ys (steps_of d)) (simp append-nil at (steps_in (kinds (yield f)) [] z))) in
      let j : Each (Terminal G) (kinds (yield f ++ w)) = rw (kinds_append (yield f) w) (each_join (terminals d) t) in
      let l : Follow G M (ahead (yield f ++ w)) = follows α (yield f ++ w) j s i in
      let h : Predicts G M (ahead (yield k ++ (yield f ++ w))) p = rw (front_append (yield k) (yield f ++ w) end_mark) (predicted (yield k) r (terminals e) (steps_of e) l) in
      Guided.node (rule_left o r) h l r
      (guided α (xs ++ ys) (yield f ++ w) o e j (trans s (simp (append_assoc, append-nil) at (steps_in α (xs ++ ys) (then (at [] [] r) stop)))) i)
      (guided (α ++ M ∷ []) ys w o d t (rw (append_assoc α (M ∷ []) (xs ++ ys)) s) z)

  -- a derivation tree is guided, with nothing behind it
  pub guided_tree : {f : Forest} → Prepared G → Derives G (G.start ∷ []) f → Guided G [] (G.start ∷ []) f
  guided_tree g d = guided [] [] [] g.formed d Each.nil stop stop

  -- it is a derivation
  pub guided_derives : {u : List Token} {xs : List ℕ} {f : Forest} → Guided G u xs f → Derives G xs f
  guided_derives Guided.nil = Derives.nil
  guided_derives (Guided.leaf t d) = Derives.leaf t (guided_derives d)
  guided_derives (Guided.node m e l r k d) = Derives.node r (guided_derives k) (guided_derives d)

-- the first n tokens are the same, and so is the lookahead behind them
abbrev pub Agree : ℕ → List Token → List Token → Type 0
Agree zero u v = ahead u ≡ ahead v
Agree (suc n) [] [] = Unit {0}
Agree (suc n) [] (b ∷ v) = ⊥
Agree (suc n) (a ∷ u) [] = ⊥
Agree (suc n) (a ∷ u) (b ∷ v) = (a ≡ b) × Agree n u v

-- then the first lookahead is the same
pub agree_ahead : (n : ℕ) (u v : List Token) → Agree n u v → ahead u ≡ ahead v
agree_ahead zero u v h = h
agree_ahead (suc n) [] [] h = refl
agree_ahead (suc n) [] (b ∷ v) h = absurd h
agree_ahead (suc n) (a ∷ u) [] h = absurd h
agree_ahead (suc n) (a ∷ u) (b ∷ v) h = ap (λ (t : Token). t.kind) h.0

-- a sentence agrees with itself
pub agree_self : (n : ℕ) (u : List Token) → Agree n u u
agree_self zero u = refl
agree_self (suc n) [] = tt
agree_self (suc n) (a ∷ u) = (refl, agree_self n u)

module _ {G : Grammar} (g : Prepared G) where
  -- a lookahead predicts one production of a symbol, which has one body
  pub predicts_one : {M a b p q : ℕ} {γ δ : List ℕ} → Predicts G M a p → Predicts G M b q → a ≡ b → Rule G p M γ → Rule G q M δ → (p ≡ q) × (δ ≡ γ)
  predicts_one {M} {q = q} x y e r s =
      let z = ll1_one g.ll1 x (subst (λ (c : ℕ). Predicts G M c q) (sym e) y) in
      (z, (rule_one s (rw z at r)).1)

  -- two guided forests of the same symbols, over tokens that agree beyond the first, differ in slots only, and what comes behind them agrees
  pub guided_same : {xs : List ℕ} {f f' : Forest} (n : ℕ) (u v : List Token) → Guided G u xs f → Guided G v xs f'
      → Agree (tokens f + n) (yield f ++ u) (yield f' ++ v) → Same f f' × Agree n u v
  guided_same n u v Guided.nil Guided.nil h = (Same.nil, (let z : 0 + n ≡ n = omega arith in rw z at h))
  guided_same n u v (Guided.leaf {s = s} {a = a} {g = y} {r = f} t d) (Guided.leaf {s = s'} {g = z} {r = f'} t' d') h =
      let e : suc (tokens f) + n ≡ suc (tokens f + n) = omega arith in
      let h' : Agree (suc (tokens f + n)) (record { kind = a; tag = y } ∷ (yield f ++ u)) (record { kind = a; tag = z } ∷ (yield f' ++ v)) = rw e at h in
      let q = guided_same n u v d d' h'.1 in
      (subst (λ (x : ℕ). Same (Forest.leaf s a y f) (Forest.leaf s' a x f')) (ap (λ (t : Token). t.tag) h'.0) (Same.leaf q.0), q.1)
  guided_same n u v (Guided.leaf t d) (Guided.node m e l r k d') h = absurd (omega (arith, t.1, m.0))
  guided_same n u v (Guided.node m e l r k d) (Guided.leaf t d') h = absurd (omega (arith, t.1, m.0))
  guided_same n u v (Guided.node {s = s} {M = M} {p = p} {k = k} {r = f} m e l r gk gf) (Guided.node {s = s'} {p = q} {k = k'} {r = f'} m' e' l' r' gk' gf') h =
      let z : length (yield k ++ yield f) + n ≡ tokens k + (tokens f + n) = omega (arith, length-append (yield k) (yield f)) in
      let w : Agree (tokens k + (tokens f + n)) (yield k ++ (yield f ++ u)) (yield k' ++ (yield f' ++ v)) =
      rw (z, append_assoc (yield k) (yield f) u, append_assoc (yield k') (yield f') v) at h in
      let o = predicts_one e e' (agree_ahead (tokens k + (tokens f + n)) (yield k ++ (yield f ++ u)) (yield k' ++ (yield f' ++ v)) w) r r' in
      let x = guided_same (tokens f + n) (yield f ++ u) (yield f' ++ v) gk (subst (λ (δ : List ℕ). Guided G (yield f' ++ v) δ k') o.1 gk') w in
      let y = guided_same n u v gf gf' x.1 in
      (subst (λ (c : ℕ). Same (Forest.node s M p k f) (Forest.node s' M c k' f')) o.0 (Same.node x.0 y.0), y.1)

  -- nodes without tokens of one symbol have the same production: both are predicted by what follows
  void_production : {M p q a : ℕ} {γ δ : List ℕ} {k l : Forest} → Follow G M a → Rule G p M γ → Rule G q M δ → Derives G γ k → Derives G δ l
      → yield k ≡ [] → yield l ≡ [] → p ≡ q
  void_production {γ = γ} {δ = δ} h r s d d' e e' =
      let x : Steps G γ [] = rw e at (steps_of d) in
      let y : Steps G δ [] = rw e' at (steps_of d') in
      ll1_one g.ll1 (by_follow r x h) (by_follow s y h)

-- no tokens
none_yield : (w : List Token) → length w ≡ 0 → w ≡ []
none_yield [] e = refl
none_yield (a ∷ w) e = absurd (omega arith)

module _ {G : Grammar} (g : Prepared G) where
  -- so they have, wherever they stand
  pub void_same_top : {u v : List Token} {x : ℕ} {xs ys : List ℕ} {f f' : Forest} → Guided G u (x ∷ xs) f → Guided G v (x ∷ ys) f' → own f ≡ 0 → own f' ≡ 0
      → production f ≡ production f'
  void_same_top (Guided.leaf t d) (Guided.leaf t' d') e e' = refl
  void_same_top (Guided.leaf t d) (Guided.node m h l r k d') e e' = absurd (omega arith)
  void_same_top (Guided.node m h l r k d) (Guided.leaf t d') e e' = absurd (omega arith)
  void_same_top (Guided.node {k = k} m h l r gk d) (Guided.node {k = k'} m' h' l' r' gk' d') e e' =
      void_production g l r r' (guided_derives gk) (guided_derives gk') (none_yield (yield k) e) (none_yield (yield k') e')

  -- forests of the same symbols without tokens are the same
  pub void_same : {u v : List Token} {xs : List ℕ} {f f' : Forest} → Guided G u xs f → Guided G v xs f' → tokens f ≡ 0 → tokens f' ≡ 0 → Same f f'
  void_same Guided.nil Guided.nil e e' = Same.nil
  void_same (Guided.leaf t d) (Guided.leaf t' d') e e' = absurd (omega arith)
  void_same (Guided.leaf t d) (Guided.node m h l r k d') e e' = absurd (omega arith)
  void_same (Guided.node m h l r k d) (Guided.leaf t d') e e' = absurd (omega arith)
  void_same {v = v} (Guided.node {s = s} {M = M} {p = p} {k = k} {r = f} m h l r gk d) (Guided.node {s = s'} {p = q} {k = k'} {r = f'} m' h' l' r' gk' d') e e' =
      let i = length-append (yield k) (yield f) in
      let i' = length-append (yield k') (yield f') in
      let a : tokens k ≡ 0 = omega arith in
      let a' : tokens k' ≡ 0 = omega arith in
      let o : p ≡ q = void_production g l r r' (guided_derives gk) (guided_derives gk') (none_yield (yield k) a) (none_yield (yield k') a') in
      let x = void_same gk (subst (λ (δ : List ℕ). Guided G (yield f' ++ v) δ k') (rule_one r' (rw o at r)).1 gk') a a' in
      rw (← o) (Same.node x (void_same d d' (omega arith) (omega arith)))

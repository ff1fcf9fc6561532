-- Every node that starts before the place is kept, by the new node of the same number.
use Rattle.std.specs.Prelude.{ℕ, zero, suc, ◌+◌, ◌-◌, ◌≤◌, ◌<◌, ◌≡◌, refl, ◌⊎◌, List, [], ◌++◌, length}
use Rattle.std.proofs.Common.{sym, ap, subst, inl, inr, append_assoc, append-nil, arith}
use Rattle.std.proofs.Math.Logic.{by_cases}
use Rattle.std.proofs.Math.Decide.{dec_lt}
use Rattle.grammar.specs.Grammar.{Grammar}
use Rattle.grammar.specs.Prediction.{Prepared}
use Rattle.grammar.specs.Forest.{Token, Forest, size, yield}
use Rattle.plain.specs.Alike.{same_yield, same_size}
use Rattle.edits.specs.Keeping.{Edit, before, symbol, own, production, At, here, inside, past_leaf, past_node, Node, Keeps}
use Rattle.edits.specs.Places.{tokens, Side, Parent, at_token, at_below_parent, at_up}
use Rattle.edits.specs.Guided.{Guided, Agree, agree_ahead, guided_tree, predicts_one, guided_same}
use Rattle.edits.specs.Stems.{Both, both_some, stem_same}
use Rattle.edits.specs.Edited.{Trees, agree_before}

-- another forest has a node of the same number in the same place, of the same symbol and production, and it has tokens exactly where f's has
pub record Again (i par n j : ℕ) (F : Forest) (a q m t : ℕ) (f : Forest) : Type 0 where
  pub forest : Forest
  pub node : At i par n j F a q m t forest
  pub alike : (symbol forest ≡ symbol f) × (production forest ≡ production f)
  pub tokened : Both (own f) (own forest)

-- below a node, and behind one of as many nodes and tokens
again_inside : {i par n j s M p a q m t : ℕ} {k r f : Forest} → Again (suc i) i 0 j k a q m t f → Again i par n j (Forest.node s M p k r) a q m t f
again_inside x = record { forest = x.forest; node = inside x.node; alike = x.alike; tokened = x.tokened }

again_past : {i par n j s M p a q m t z w : ℕ} {k r f : Forest} → size k ≡ z → tokens k ≡ w → Again (suc i + z) par (suc n) (j + w) r a q m t f → Again i par n j (Forest.node s M p k r) a q m t f
again_past {i} {par} {n} {j} {a = a} {q = q} {m = m} {t = t} {k = k} {r = r} e e' x =
    let y : At (suc i + size k) par (suc n) (j + tokens k) r a q m t x.forest = rw (e, e') x.node in
    record { forest = x.forest; node = past_node y; alike = x.alike; tokened = x.tokened }

module _ {G : Grammar} (g : Prepared G) where
  -- forests of the same symbols over tokens that agree up to f
  again : {i par n j a q m t : ℕ} {xs : List ℕ} {F F' f : Forest} (o : ℕ) (u v : List Token) → Guided G u xs F → Guided G v xs F' → At i par n j F a q m t f → t ≡ j + o
      → Agree o (yield F ++ u) (yield F' ++ v) → Again i par n j F' a q m t f
  again o u v Guided.nil Guided.nil (here x y z w l) e h = absurd (omega arith)
  again o u v (Guided.leaf t d) (Guided.leaf {s = s} {a = a} {g = y} {r = r} t' d') (here x b z w l) e h =
      let l' : 1 ≤ suc (size r) = omega arith in
      record { forest = Forest.leaf s a y r; node = here x b z w l'; alike = (refl, refl); tokened = tt }
  again zero u v (Guided.leaf t d) (Guided.leaf t' d') (past_leaf s) e h = absurd (omega (arith, (at_token s).0))
  again {i} {par} {n} {j} (suc o) u v (Guided.leaf t d) (Guided.leaf t' d') (past_leaf s) e h =
      let x = again {i = suc i} {par = par} {n = suc n} {j = suc j} o u v d d' s (omega arith) h.1 in
      record { forest = x.forest; node = past_leaf x.node; alike = x.alike; tokened = x.tokened }
  again o u v (Guided.leaf t d) (Guided.node m c l r k d') s e h = absurd (omega (arith, t.1, m.0))
  again o u v (Guided.node m c l r k d) (Guided.leaf t d') s e h = absurd (omega (arith, t.1, m.0))
  again o u v (Guided.node {k = k} {r = f} m c l r d b) (Guided.node {s = s'} {M = M} {p = p'} {k = k'} {r = f'} m' c' l' r' d' b') (here x y z w i) e h =
      let h' : Agree o (yield k ++ (yield f ++ u)) (yield k' ++ (yield f' ++ v)) = rw (append_assoc (yield k) (yield f) u, append_assoc (yield k') (yield f') v) at h in
      let a = agree_ahead o (yield k ++ (yield f ++ u)) (yield k' ++ (yield f' ++ v)) h' in
      let q = predicts_one g c c' a r r' in
      let st = stem_same g d (subst (λ (δ : List ℕ). Guided G (yield f' ++ v) δ k') q.1 d') a in
      let i' : 1 ≤ suc (size k' + size f') = omega arith in
      record { forest = Forest.node s' M p' k' f'; node = here x y z w i'; alike = (refl, sym q.0); tokened = st.1 }
  again {i} {j = j} o u v (Guided.node {k = k} {r = f} m c l r d b)
      (Guided.node {k = k'} {r = f'} m' c' l' r' d' b') (inside s) e h =
      let h' : Agree o (yield k ++ (yield f ++ u)) (yield k' ++ (yield f' ++ v)) = rw (append_assoc (yield k) (yield f) u, append_assoc (yield k') (yield f') v) at h in
      let q = predicts_one g c c' (agree_ahead o (yield k ++ (yield f ++ u)) (yield k' ++ (yield f' ++ v)) h') r r' in
      let d'' : Guided G (yield f' ++ v) _ k' = subst (λ (δ : List ℕ). Guided G (yield f' ++ v) δ k') q.1 d' in
      again_inside (again {i = suc i} {par = i} {n = 0} {j = j} o (yield f ++ u) (yield f' ++ v) d d'' s e h')
  again {i} {par} {n} {j} o u v (Guided.node {k = k} {r = f} m c l r d b)
      (Guided.node {k = k'} {r = f'} m' c' l' r' d' b') (past_node s) e h =
      let w = (at_token s).0 in
      let z : o ≡ tokens k + (o - tokens k) = omega arith in
      let h' : Agree o (yield k ++ (yield f ++ u)) (yield k' ++ (yield f' ++ v)) = rw (append_assoc (yield k) (yield f) u, append_assoc (yield k') (yield f') v) at h in
      let q = predicts_one g c c' (agree_ahead o (yield k ++ (yield f ++ u)) (yield k' ++ (yield f' ++ v)) h') r r' in
      let h'' : Agree (tokens k + (o - tokens k)) (yield k ++ (yield f ++ u)) (yield k' ++ (yield f' ++ v)) =
      subst (λ (c : ℕ). Agree c (yield k ++ (yield f ++ u)) (yield k' ++ (yield f' ++ v))) z h' in
      let y = guided_same g (o - tokens k) (yield f ++ u) (yield f' ++ v) d (subst (λ (δ : List ℕ). Guided G (yield f' ++ v) δ k') q.1 d') h'' in
      again_past (sym (same_size y.0)) (sym (ap (λ (w : List Token). length w) (same_yield y.0)))
      (again {i = suc i + size k} {par = par} {n = suc n} {j = j + tokens k}
      (o - tokens k) u v b b' s (omega arith) y.1)

module _ {G : Grammar} {e : Edit} {old new : Forest} (h : Trees G e old new) where
  -- the new tree has the same node there
  pub before_again : {a q m t : ℕ} {f : Forest} → Node old a q m t f → t < e.place → Again 1 0 0 0 new a q m t f
  before_again {t = t} o l =
      let z : t ≡ 0 + t = omega arith in
      again h.prepared t [] [] (guided_tree h.prepared h.first) (guided_tree h.prepared h.second) o z
      (rw (append-nil (yield old), append-nil (yield new)) (agree_before h t l))

  -- where the one has no tokens, nor has the other
  both_none : (m n : ℕ) → Both m n → m ≡ 0 → n ≡ 0
  both_none zero zero b e = refl
  both_none zero (suc n) b e = absurd b
  both_none (suc m) n b e = absurd (omega arith)

  -- and it keeps the slot
  keeps_first : (n : ℕ) {a q m t : ℕ} {f : Forest} → a < n → Node old a q m t f → t < e.place → Keeps e old new a a
  keeps_first zero i o l = absurd (omega arith)
  keeps_first (suc n) {a} {q} {m} {t} {f} i o l =
      by_cases (dec_lt 0 (own f))
      (λ y. Keeps.full x.node o (before refl l) x.alike.0 (both_some (own f) (own x.forest) x.tokened y) y)
      (λ y. let z : own f ≡ 0 = omega (arith, y) in
      let v = up (λ z. keeps_first n (omega (arith, at_below_parent (omega arith) o)) z.node (omega (arith, z.early))) (at_up o) in
      Keeps.void x.node o v (both_none (own f) (own x.forest) x.tokened z) z)
    where
      x : Again 1 0 0 0 new a q m t f
      x = before_again o l

      up : (Parent 1 0 0 0 old q m t f → Keeps e old new q q) → Side 0 0 old q m f ⊎ Parent 1 0 0 0 old q m t f → Keeps e old new q q
      up y (inl z) = Keeps.above z.parent z.parent
      up y (inr z) = y z

  -- every node that starts before the place is kept, by the node of its number
  pub before_keeps : {a q m t : ℕ} {f : Forest} → Node old a q m t f → t < e.place → Keeps e old new a a
  before_keeps {a} o l = keeps_first (suc a) (omega arith) o l

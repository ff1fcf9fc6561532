-- A parse and a forest: the parse comes out behind the forest, or runs out of room inside it; a sentence has one derivation tree.
use Rattle.std.specs.Prelude.{ℕ, suc, ◌+◌, ◌≤◌, ◌<◌, ◌≡◌, refl, List, [], ◌∷◌, ◌++◌, length}
use Rattle.std.proofs.Common.{sym, ap, ◌∙◌, subst, append_assoc, append-nil, length-append, arith}
use Rattle.std.proofs.Math.Logic.{by_cases}
use Rattle.std.proofs.Math.Decide.{dec_lt}
use Rattle.grammar.specs.Limits.{end_mark}
use Rattle.grammar.specs.Each.{Each, each_join}
use Rattle.grammar.specs.Grammar.{Grammar, Rule, Terminal}
use Rattle.grammar.specs.Rules.{rule_one, rule_left}
use Rattle.grammar.specs.Derivation.{at, Steps, stop, then, Follow, inside, ending}
use Rattle.grammar.specs.Prediction.{Predicts, by_first, by_follow, Prepared}
use Rattle.grammar.specs.Single.{ll1_one}
use Rattle.grammar.specs.Forest.{Token, kinds, Forest, size, yield, Derives}
use Rattle.grammar.specs.Trees.{kinds_append, trans, steps_in, steps_of}
use Rattle.plain.specs.Plain.{front, ahead, Verdict, out_of_room, Runs, matches, expands, crowded}

-- each node's production is predicted by the lookahead at its beginning, where a comes behind the forest
pub data Traced (G : Grammar) : ℕ → Forest → Type 0 where
  nil : {a : ℕ} → Traced G a Forest.nil
  leaf : {a s x g : ℕ} {r : Forest} → Traced G a r → Traced G a (Forest.leaf s x g r)
  node : {a s M p : ℕ} {k r : Forest} → Predicts G M (front (yield k) (front (yield r) a)) p → Traced G (front (yield r) a) k → Traced G a r
      → Traced G a (Forest.node s M p k r)

-- two forests that differ in slots only
pub data Same : Forest → Forest → Type 0 where
  nil : Same Forest.nil Forest.nil
  leaf : {s s' x g : ℕ} {r r' : Forest} → Same r r' → Same (Forest.leaf s x g r) (Forest.leaf s' x g r')
  node : {s s' M p : ℕ} {k k' r r' : Forest} → Same k k' → Same r r' → Same (Forest.node s M p k r) (Forest.node s' M p k' r')

pub front_append : (u v : List Token) (a : ℕ) → front (u ++ v) a ≡ front u (front v a)
front_append [] v a = refl
front_append (k ∷ u) v a = refl

-- a forest has a node for each of its symbols, at least
pub derives_size : {G : Grammar} {xs : List ℕ} {f : Forest} → Derives G xs f → length xs ≤ size f
derives_size Derives.nil = omega arith
derives_size (Derives.leaf t d) = omega (arith, derives_size d)
derives_size (Derives.node r e d) = omega (arith, derives_size d)

-- ---- the parse over a traced forest, whatever stands below it on the stack and behind it in the input

module _ {G : Grammar} {S : ℕ} where
  -- it comes out behind the forest
  pub through : {xs : List ℕ} {f : Forest} (ys : List ℕ) (w : List Token) (v : Verdict) (c c' i : ℕ)
      → Derives G xs f → Traced G (ahead w) f → c' + length xs ≡ c + size f → c' ≤ S → Runs G S ys w c' (i + length (yield f)) v
      → Runs G S (xs ++ ys) (yield f ++ w) c i v
  through ys w v c c' i Derives.nil Traced.nil e l h =
      let x : c' ≡ c = omega arith in
      let y : i + 0 ≡ i = omega arith in
      rw (x, y) at h
  through ys w v c c' i (Derives.leaf {r = r} t d) (Traced.leaf b) e l h =
      let y : suc i + length (yield r) ≡ i + suc (length (yield r)) = omega arith in
      let o = through ys w v c c' (suc i) d b (omega (arith, e)) l (rw y h) in
      matches {v = v} t refl o
  through ys w v c c' i (Derives.node {M = M} {p = p} {γ = γ} {xs = xs} {k = k} {r = f} r e d) (Traced.node x b b') q l h =
      let m = c + size k in
      let z : i + length (yield k) + length (yield f) ≡ i + length (yield k ++ yield f) = omega (arith, length-append (yield k) (yield f)) in
      let u = through ys w v m c' (i + length (yield k)) d b' (omega (arith, q)) l (rw z h) in
      let a = front_append (yield f) w end_mark in
      let o = through (xs ++ ys) (yield f ++ w) v (c + length γ) m i e (rw a b) (omega arith) (omega (arith, q, l, derives_size d)) u in
      let j : Predicts G M (ahead (yield k ++ (yield f ++ w))) p = rw (front_append (yield k) (yield f ++ w) end_mark, a) x in
      let n : Runs G S (M ∷ (xs ++ ys)) (yield k ++ (yield f ++ w)) c i v = expands {c = c} j r (omega (arith, q, l, derives_size d, derives_size e)) o in
      rw (append_assoc (yield k) (yield f) w) n

  -- or it runs out of room inside
  pub full : {xs : List ℕ} {f : Forest} (ys : List ℕ) (w : List Token) (c i : ℕ)
      → Derives G xs f → Traced G (ahead w) f → c ≤ S → S + length xs < c + size f → Runs G S (xs ++ ys) (yield f ++ w) c i out_of_room
  full ys w c i Derives.nil Traced.nil l m = absurd (omega (arith, l, m))
  full ys w c i (Derives.leaf t d) (Traced.leaf b) l m = matches t refl (full ys w c (suc i) d b l (omega (arith, m)))
  full ys w c i (Derives.node {M = M} {p = p} {γ = γ} {xs = xs} {k = k} {r = f} r e d) (Traced.node x b b') l m =
      let a = front_append (yield f) w end_mark in
      let o : (c + length γ ≤ S) → Runs G S (γ ++ (xs ++ ys)) (yield k ++ (yield f ++ w)) (c + length γ) i out_of_room =
      λ n. by_cases (dec_lt S (c + size k))
      (λ o. full (xs ++ ys) (yield f ++ w) (c + length γ) i e (rw a b) n (omega (arith, o)))
      (λ o. through (xs ++ ys) (yield f ++ w) out_of_room (c + length γ) (c + size k) i e (rw a b) (omega arith) (omega (arith, o))
      (full ys w (c + size k) (i + length (yield k)) d b' (omega (arith, o)) (omega (arith, m)))) in
      let j : Predicts G M (ahead (yield k ++ (yield f ++ w))) p = rw (front_append (yield k) (yield f ++ w) end_mark, a) x in
      let n : Runs G S (M ∷ (xs ++ ys)) (yield k ++ (yield f ++ w)) c i out_of_room =
      by_cases (dec_lt S (c + length γ)) (λ n. crowded {c = c} j r n) (λ n. let n' : c + length γ ≤ S = omega (arith, n) in expands {c = c} j r n' (o n')) in
      rw (append_assoc (yield k) (yield f) w) n

-- ---- in a sentence every forest is traced

module _ {G : Grammar} where
  -- what a string that begins with M's left context and ends with a forest's symbols says of FOLLOW(M)
  pub follows : (α : List ℕ) {M : ℕ} {ys : List ℕ} (w : List Token) → Each (Terminal G) (kinds w) → Steps G (G.start ∷ []) (α ++ M ∷ ys) → Steps G ys (kinds w)
      → Follow G M (ahead w)
  follows α {M} [] t s d =
      ending α (trans s (simp (append_assoc, append-nil) at (steps_in (α ++ M ∷ []) [] d)))
  follows α {M} (k ∷ w) (Each.cons h t) s d =
      inside α (kinds w) h (trans s (simp (append_assoc, append-nil) at (steps_in (α ++ M ∷ []) [] d)))

  pub terminals : {xs : List ℕ} {f : Forest} → Derives G xs f → Each (Terminal G) (kinds (yield f))
  terminals Derives.nil = Each.nil
  terminals (Derives.leaf t d) = Each.cons t (terminals d)
  terminals (Derives.node {k = k} {r = f} r e d) = rw (kinds_append (yield k) (yield f)) (each_join (terminals e) (terminals d))

  -- a production is predicted by what its children begin with, or by what follows
  pub predicted : {M p : ℕ} {γ : List ℕ} (u : List Token) {a : ℕ} → Rule G p M γ → Each (Terminal G) (kinds u) → Steps G γ (kinds u) → Follow G M a
      → Predicts G M (front u a) p
  predicted [] r t s f = by_follow r s f
  predicted (k ∷ u) r (Each.cons h t) s f = by_first r (h, (kinds u, s))

  pub traced : (α ys : List ℕ) (w : List Token) {xs : List ℕ} {f : Forest} → Derives G xs f → Each (Terminal G) (kinds w)
      → Steps G (G.start ∷ []) (α ++ (xs ++ ys)) → Steps G ys (kinds w) → Traced G (ahead w) f
  traced α ys w Derives.nil t s z = Traced.nil
  traced α ys w (Derives.leaf {a = a} {xs = xs} x d) t s z = Traced.leaf (traced (α ++ a ∷ []) ys w d t (rw (append_assoc α (a ∷ []) (xs ++ ys)) s) z)
  traced α ys w (Derives.node {M = M} {γ = γ} {xs = xs} {k = k} {r = f} r e d) t s z =
      let o : Steps G (xs ++ ys) (kinds (yield f ++ w)) =
      rw (kinds_append (yield f) w) (trans (steps_in [] ys (steps_of d)) (simp append-nil at (steps_in (kinds (yield f)) [] z))) in
      let j : Each (Terminal G) (kinds (yield f ++ w)) = rw (kinds_append (yield f) w) (each_join (terminals d) t) in
      let a = front_append (yield f) w end_mark in
      Traced.node
      (predicted (yield k) r (terminals e) (steps_of e) (rw a at (follows α (yield f ++ w) j s o)))
      (rw a at (traced α (xs ++ ys) (yield f ++ w) e j (trans s (simp (append_assoc, append-nil) at (steps_in α (xs ++ ys) (then (at [] [] r) stop)))) o))
      (traced (α ++ M ∷ []) ys w d t (rw (append_assoc α (M ∷ []) (xs ++ ys)) s) z)

-- ---- two traced forests over the same tokens are the same

module _ {G : Grammar} (g : Prepared G) where
  pub same : {xs : List ℕ} {f f' : Forest} (w w' : List Token) → Derives G xs f → Derives G xs f' → Traced G (ahead w) f → Traced G (ahead w') f'
      → yield f ++ w ≡ yield f' ++ w' → Same f f' × (w ≡ w')
  same w w' Derives.nil Derives.nil b b' e = (Same.nil, e)
  same w w' (Derives.leaf {s = s} {a = a} {g = x} {r = r} t d) (Derives.leaf {s = s'} {g = x'} {r = r'} t' d') (Traced.leaf b) (Traced.leaf b') e =
      let z : yield r ++ w ≡ yield r' ++ w' = cc in
      let y : ◌≡◌ {A = Token} (record { kind = a; tag = x }) (record { kind = a; tag = x' }) = cc in
      let o = same w w' d d' b b' z in
      (subst (λ (u : ℕ). Same (Forest.leaf s a x r) (Forest.leaf s' a u r')) (ap (λ (k : Token). k.tag) y) (Same.leaf o.0), o.1)
  same w w' (Derives.leaf t d) (Derives.node r k d') b b' e = absurd (let l = rule_left g.formed r in omega (arith, t.1, l.0))
  same w w' (Derives.node r k d) (Derives.leaf t d') b b' e = absurd (let l = rule_left g.formed r in omega (arith, t.1, l.0))
  same w w' (Derives.node {s = s} {M = M} {p = p} {k = k} {r = f} r h d) (Derives.node {s = s'} {p = p'} {k = k'} {r = f'} r' h' d') (Traced.node x b c) (Traced.node x' b' c') e =
      let a = front_append (yield f) w end_mark in
      let a' = front_append (yield f') w' end_mark in
      let z : yield k ++ (yield f ++ w) ≡ yield k' ++ (yield f' ++ w') = sym (append_assoc (yield k) (yield f) w) ∙ e ∙ append_assoc (yield k') (yield f') w' in
      let u : Predicts G M (ahead (yield k ++ (yield f ++ w))) p = rw (front_append (yield k) (yield f ++ w) end_mark, a) x in
      let u' : Predicts G M (ahead (yield k' ++ (yield f' ++ w'))) p' = rw (front_append (yield k') (yield f' ++ w') end_mark, a') x' in
      let q : p' ≡ p = ll1_one g.ll1 u' (rw z at u) in
      let m = (rule_one (rw q at r') r).1 in
      let i = same (yield f ++ w) (yield f' ++ w') h (rw m at h') (rw a b) (rw a' b') z in
      let o = same w w' d d' c c' i.1 in
      (rw q (Same.node i.0 o.0), o.1)

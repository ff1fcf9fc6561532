-- Derivation trees and rewriting say the same: a tree of X with yield w exists exactly when X ⇒* w.
use Rattle.std.specs.Prelude.{◌≡◌, refl, ◌↔◌, ℕ, suc, ◌+◌, List, [], ◌∷◌, ◌++◌}
use Rattle.std.proofs.Common.{sym, ap, ◌∙◌, append_assoc, append-nil, arith}
use Rattle.grammar.specs.Each.{Each}
use Rattle.grammar.specs.Grammar.{Grammar, Rule, Terminal}
use Rattle.grammar.specs.Derivation.{Step, at, Steps, stop, then}
use Rattle.grammar.specs.Forest.{Token, kinds, Forest, size, yield, Derives, Tree}

-- ---- a forest behind a forest

abbrev pub join : Forest → Forest → Forest
join Forest.nil f = f
join (Forest.leaf s a g r) f = Forest.leaf s a g (join r f)
join (Forest.node s M p k r) f = Forest.node s M p k (join r f)

pub kinds_append : (u v : List Token) → kinds (u ++ v) ≡ kinds u ++ kinds v
kinds_append [] v = refl
kinds_append (a ∷ u) v = ap (λ (l : List ℕ). a.kind ∷ l) (kinds_append u v)

pub yield_join : (k r : Forest) → yield (join k r) ≡ yield k ++ yield r
yield_join Forest.nil r = refl
yield_join (Forest.leaf s a g k) r = rw (yield_join k r)
yield_join (Forest.node s M p k k') r = rw (yield_join k' r, append_assoc)

pub size_join : (k r : Forest) → size (join k r) ≡ size k + size r
size_join Forest.nil r = omega arith
size_join (Forest.leaf s a g k) r = omega (arith, size_join k r)
size_join (Forest.node s M p k k') r = omega (arith, size_join k' r)

-- a forest of a concatenation falls into two
pub record Parts (G : Grammar) (xs ys : List ℕ) (f : Forest) : Type 0 where
  pub front : Forest
  pub back : Forest
  pub is : f ≡ join front back
  pub left : Derives G xs front
  pub right : Derives G ys back

-- a node in place of its children yields the same
regroup : (M p : ℕ) (f a b k r : Forest) → f ≡ join a b → b ≡ join k r → yield (join a (Forest.node 0 M p k r)) ≡ yield f
regroup M p f a b k r e h = simp (e, h, yield_join)

module _ {G : Grammar} where
  pub derives_join : {xs ys : List ℕ} {k r : Forest} → Derives G xs k → Derives G ys r → Derives G (xs ++ ys) (join k r)
  derives_join Derives.nil e = e
  derives_join (Derives.leaf a d) e = Derives.leaf a (derives_join d e)
  derives_join (Derives.node p k d) e = Derives.node p k (derives_join d e)

  pub parts : (xs : List ℕ) {ys : List ℕ} {f : Forest} → Derives G (xs ++ ys) f → Parts G xs ys f
  parts [] d = record { front = Forest.nil; back = _; is = refl; left = Derives.nil; right = d }
  parts (x ∷ xs) (Derives.leaf {s = s} {g = g} a d) =
      let q = parts xs d in
      record { front = Forest.leaf s x g q.front; back = q.back; is = ap (Forest.leaf s x g) q.is; left = Derives.leaf a q.left; right = q.right }
  parts (x ∷ xs) (Derives.node {s = s} {p = p} {k = k} r e d) =
      let q = parts xs d in
      record { front = Forest.node s x p k q.front; back = q.back; is = ap (Forest.node s x p k) q.is; left = Derives.node r e q.left; right = q.right }

  -- ---- rewriting one after the other, and between other symbols

  pub trans : {xs ys zs : List ℕ} → Steps G xs ys → Steps G ys zs → Steps G xs zs
  trans stop t = t
  trans (then a s) t = then a (trans s t)

  step_in : (u v : List ℕ) {xs ys : List ℕ} → Step G xs ys → Step G (u ++ xs ++ v) (u ++ ys ++ v)
  step_in u v (at α β {M = M} {γ = γ} r) = simp append_assoc (simp append_assoc at (at (u ++ α) (β ++ v) r))

  pub steps_in : (u v : List ℕ) {xs ys : List ℕ} → Steps G xs ys → Steps G (u ++ xs ++ v) (u ++ ys ++ v)
  steps_in u v stop = stop
  steps_in u v (then a s) = then (step_in u v a) (steps_in u v s)

  -- ---- a forest's symbols rewrite to its yield

  pub steps_of : {xs : List ℕ} {f : Forest} → Derives G xs f → Steps G xs (kinds (yield f))
  steps_of Derives.nil = stop
  steps_of (Derives.leaf {a = a} t d) = simp append-nil at (steps_in (a ∷ []) [] (steps_of d))
  steps_of (Derives.node {M = M} {γ = γ} {xs = xs} {k = k} {r = f} r e d) =
      rw kinds_append
      (then (at [] xs r)
      (trans (steps_in [] xs (steps_of e))
      (simp append-nil at (steps_in (kinds (yield k)) [] (steps_of d)))))

  -- a production's node over the trees of its body, before others
  pub node_over : {p M : ℕ} (γ : List ℕ) {xs : List ℕ} {f : Forest} → Rule G p M γ → Derives G (γ ++ xs) f
      → (g : Forest) × Derives G (M ∷ xs) g × (yield g ≡ yield f) × (size g ≡ suc (size f))
  node_over {p} {M} γ r d =
      let q = parts γ d in (
        Forest.node 0 M p q.front q.back,
        Derives.node r q.left q.right,
        sym (yield_join q.front q.back) ∙ ap yield (sym q.is),
        ap suc (sym (size_join q.front q.back) ∙ ap size (sym q.is)),
      )

  -- ---- and what terminals a list of symbols rewrites to, a forest yields

  leaves : (w : List Token) → Each (Terminal G) (kinds w) → (f : Forest) × Derives G (kinds w) f × (yield f ≡ w)
  leaves [] t = (Forest.nil, Derives.nil, refl)
  leaves (a ∷ w) (Each.cons h t) =
      let q = leaves w t in
      (Forest.leaf 0 a.kind a.tag q.0, Derives.leaf h q.1, ap (λ (l : List Token). a ∷ l) q.2)

  step_back : {xs ys : List ℕ} {f : Forest} → Step G xs ys → Derives G ys f → (g : Forest) × Derives G xs g × (yield g ≡ yield f)
  step_back (at α β {p} {M} {γ} r) d =
      let q = parts α d in
      let s = parts γ q.right in (
        join q.front (Forest.node 0 M p s.front s.back),
        derives_join q.left (Derives.node r s.left s.right),
        regroup M p _ q.front _ s.front s.back q.is s.is,
      )

  forest_from : {xs ys : List ℕ} (w : List Token) → Each (Terminal G) (kinds w) → Steps G xs ys → ys ≡ kinds w
      → (f : Forest) × Derives G xs f × (yield f ≡ w)
  forest_from w t stop e = rw e (leaves w t)
  forest_from w t (then a s) e =
      let q = forest_from w t s e in
      let g = step_back a q.1 in
      (g.0, g.1, g.2 ∙ q.2)

  pub forest_of : {xs : List ℕ} (w : List Token) → Each (Terminal G) (kinds w) → Steps G xs (kinds w)
      → (f : Forest) × Derives G xs f × (yield f ≡ w)
  forest_of w t s = forest_from w t s refl

  -- ---- both

  pub tree_exactly : (X : ℕ) (w : List Token) → Each (Terminal G) (kinds w) → Tree G X w ↔ Steps G (X ∷ []) (kinds w)
  tree_exactly X w t = (
    λ d. rw d.yields at (steps_of d.derives),
    λ s. let q = forest_of w t s in record { tree = q.0; derives = q.1; yields = q.2 },
  )

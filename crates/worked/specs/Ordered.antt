-- Every sentence that the plain parse accepts has a tree in order, and that tree has an area.
use Rattle.std.specs.Prelude.{ℕ, zero, suc, ◌+◌, ◌≤◌, ◌<◌, ◌≡◌, refl}
use Rattle.std.proofs.Common.{sym, ap, ◌∙◌, arith}
use mathlib.Core.List.{List, ◌∷◌, ◌++◌, Memᴰ}
use Rattle.grammar.specs.Each.{Each, each_map}
use Rattle.grammar.specs.Grammar.{Grammar}
use Rattle.grammar.specs.Forest.{Token, Forest, size, Derives}
use Rattle.trees.specs.Area.{slots, Distinct, Area}
use Rattle.trees.specs.Members.{each_mem}
use Rattle.plain.specs.Plain.{accepted, Parses}
use Rattle.plain.specs.Traced.{Same}
use Rattle.plain.specs.Alike.{same_size, same_yield}
use Rattle.plain.proofs.Exactly.{accepted_exactly}
use Rattle.plain.specs.Tokens.{Tagged}
use Rattle.calls.specs.Parse.{up_from, Stored}
use Rattle.worked.specs.Laid.{laid}

-- ---- numbers in order

up_within : (s n : ℕ) → Each (λ x. (s ≤ x) × (x < s + n)) (up_from s n)
up_within s zero = Each.nil
up_within s (suc n) = Each.cons {x = s} (omega arith, omega arith) (each_map (λ x h. (omega arith, omega arith)) (up_within (s + 1) n))

up_distinct : (s n : ℕ) → Distinct (up_from s n)
up_distinct s zero = Distinct.nil
up_distinct s (suc n) = Distinct.cons new (up_distinct (s + 1) n)
  where
    new : Memᴰ s (up_from (s + 1) n) → ⊥
    new m = let h = each_mem (up_from (s + 1) n) (up_within (s + 1) n) m in omega arith

up_join : (s n m : ℕ) → up_from s (n + m) ≡ up_from s n ++ up_from (s + n) m
up_join s zero m = let q : 0 + m ≡ m = omega arith in let p : s + 0 ≡ s = omega arith in rw (q, p)
up_join s (suc n) m =
    let q : suc n + m ≡ suc (n + m) = omega arith in
    let p : s + suc n ≡ s + 1 + n = omega arith in
    rw (q, p) (ap (λ (u : List ℕ). s ∷ u) (up_join (s + 1) n m))

-- ---- a forest with slots s, s + 1, .. in preorder

ordered : ℕ → Forest → Forest
ordered s Forest.nil = Forest.nil
ordered s (Forest.leaf x a g r) = Forest.leaf s a g (ordered (s + 1) r)
ordered s (Forest.node x M p k r) = Forest.node s M p (ordered (s + 1) k) (ordered (s + 1 + size k) r)

same_ordered : (s : ℕ) (f : Forest) → Same f (ordered s f)
unfolding ordered
same_ordered s Forest.nil = Same.nil
same_ordered s (Forest.leaf x a g r) = Same.leaf (same_ordered (s + 1) r)
same_ordered s (Forest.node x M p k r) = Same.node (same_ordered (s + 1) k) (same_ordered (s + 1 + size k) r)

slots_ordered : (s : ℕ) (f : Forest) → slots (ordered s f) ≡ up_from s (size f)
unfolding ordered
slots_ordered s Forest.nil = refl
slots_ordered s (Forest.leaf x a g r) = ap (λ (u : List ℕ). s ∷ u) (slots_ordered (s + 1) r)
slots_ordered s (Forest.node x M p k r) =
    ap (λ (u : List ℕ). s ∷ u) (rw (slots_ordered (s + 1) k, slots_ordered (s + 1 + size k) r) (sym (up_join (s + 1) (size k) (size r))))

same_derives : {G : Grammar} {xs : List ℕ} {f g : Forest} → Same f g → Derives G xs f → Derives G xs g
same_derives Same.nil Derives.nil = Derives.nil
same_derives (Same.leaf h) (Derives.leaf t d) = Derives.leaf t (same_derives h d)
same_derives (Same.node h j) (Derives.node r d e) = Derives.node r (same_derives h d) (same_derives j e)

-- ---- the tree, and its area

pub stores : {G : Grammar} {S : ℕ} {w : List Token} {n : ℕ} → 1 ≤ S → Parses G S w (accepted n) → (f : Forest) × Stored G S w f × (size f ≡ n)
stores {S = S} {w} {n} l h =
    let b = (accepted_exactly S w n l).0 h in
    let T = b.tree in
    let s = same_ordered 1 T.tree in
    let e = same_size s in (
      ordered 1 T.tree,
      record {
        derives = same_derives s T.derives;
        yields = sym (same_yield s) ∙ T.yields;
        fits = omega (arith, e, b.nodes, b.fits);
        order = slots_ordered 1 T.tree ∙ ap (up_from 1) e;
      },
      sym e ∙ b.nodes,
    )

pub stored_laid : {G : Grammar} {S : ℕ} {w : List Token} {f : Forest} → Stored G S w f → Each Tagged w → (b : List ℕ) × Area S f b
stored_laid {S = S} {f = f} h t =
    let d : Distinct (slots f) = rw h.order (up_distinct 1 (size f)) in
    let e : Each (λ s. (1 ≤ s) × (s ≤ S)) (slots f) = rw h.order (each_map (λ x y. let z = h.fits in (y.0, omega arith)) (up_within 1 (size f))) in
    laid S f d e (rw h.yields t)

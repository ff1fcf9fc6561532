-- Forests that differ in slots only: sizes and tokens agree, and equal slots make them equal.
use Rattle.std.specs.Prelude.{ℕ, suc, ◌≡◌, refl, List, [], ◌∷◌, ◌++◌, length}
use Rattle.std.proofs.Common.{ap, arith}
use Rattle.grammar.specs.Forest.{Token, Forest, size, yield}
use Rattle.trees.specs.Area.{slots}
use Rattle.trees.specs.Spread.{length_slots}
use Rattle.plain.specs.Traced.{Same}

pub same_back : {f g : Forest} → Same f g → Same g f
same_back Same.nil = Same.nil
same_back (Same.leaf h) = Same.leaf (same_back h)
same_back (Same.node h j) = Same.node (same_back h) (same_back j)

pub same_size : {f g : Forest} → Same f g → size f ≡ size g
same_size Same.nil = refl
same_size (Same.leaf h) = ap suc (same_size h)
same_size (Same.node h j) = omega (arith, same_size h, same_size j)

pub same_yield : {f g : Forest} → Same f g → yield f ≡ yield g
same_yield Same.nil = refl
same_yield (Same.leaf {x = x} {g = g} h) = ap (λ (w : List Token). record { kind = x; tag = g } ∷ w) (same_yield h)
same_yield (Same.node h j) = rw (same_yield h, same_yield j)

-- forests that differ in slots only, and not in slots, are equal
pub same_slots : {f g : Forest} → Same f g → slots f ≡ slots g → f ≡ g
same_slots Same.nil e = refl
same_slots (Same.leaf {s = s} {s' = s'} {r = r} {r' = r'} h) e =
    let q : s ≡ s' = cc in
    let z : slots r ≡ slots r' = cc in
    rw (q, same_slots h z)
same_slots (Same.node {s = s} {s' = s'} {k = k} {k' = k'} {r = r} {r' = r'} h j) e =
    let q : s ≡ s' = cc in
    let z : slots k ++ slots r ≡ slots k' ++ slots r' = cc in
    let y = split (slots k) (slots k') (omega (arith, length_slots k, length_slots k', same_size h)) z in
    rw (q, same_slots h y.0, same_slots j y.1)
  where
    split : (u v : List ℕ) {x y : List ℕ} → length u ≡ length v → u ++ x ≡ v ++ y → (u ≡ v) × (x ≡ y)
    split [] [] l e = (refl, e)
    split [] (a ∷ v) l e = absurd (omega arith)
    split (a ∷ u) [] l e = absurd (omega arith)
    split (a ∷ u) (b ∷ v) {x} {y} l e =
        let q : a ≡ b = cc in
        let d : u ++ x ≡ v ++ y = cc in
        let z = split u v (omega arith) d in
        (rw (q, z.0), z.1)

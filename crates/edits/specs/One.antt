-- A node of the new tree keeps one slot at most, and a slot is kept by one node at most.
use Rattle.std.specs.Prelude.{ℕ, ◌+◌, ◌≤◌, ◌≡◌, refl, [], ◌∷◌, length, replicate}
use Rattle.std.proofs.Common.{sym, ap, ◌∙◌, arith}
use Rattle.std.proofs.lemmas.List.{length-replicate}
use Rattle.grammar.specs.Grammar.{Grammar}
use Rattle.grammar.specs.Prediction.{Prepared}
use Rattle.grammar.specs.Forest.{Forest, Derives}
use Rattle.edits.specs.Keeping.{Edit, Kept, before, after, symbol, own, Node, Keeps}
use Rattle.edits.specs.Places.{at_number, at_one, at_child, Numbered}
use Rattle.edits.specs.Stems.{at_start}

-- a new token is one old token
pub kept_one : {e : Edit} {t' t₁ t₂ : ℕ} → Kept e t' t₁ → Kept e t' t₂ → t₁ ≡ t₂
kept_one (before x l) (before y k) = omega arith
kept_one (before x l) (after d y z) = absurd (omega arith)
kept_one (after d y z) (before x l) = absurd (omega arith)
kept_one (after d y z) (after d' y' z') = omega arith

-- an edit that takes e back, as far as numbers go
pub record Back (e e' : Edit) : Type 0 where
  pub place : e'.place ≡ e.place
  pub removed : e'.removed ≡ length e.inserted
  pub inserted : length e'.inserted ≡ e.removed

-- it keeps the same tokens, the other way round
pub kept_back : {e e' : Edit} {t' t : ℕ} → Back e e' → Kept e t' t → Kept e' t t'
kept_back b (before x l) = before (sym x) (omega (arith, b.place))
kept_back {e} {e'} {t'} {t} b (after d x y) =
    let x' : t ≡ e'.place + length e'.inserted + d = omega (arith, b.place, b.inserted) in
    let y' : t' ≡ e'.place + e'.removed + d = omega (arith, b.place, b.removed) in
    after d x' y'

-- it keeps the same nodes, the other way round
pub keeps_back : {e e' : Edit} {old new : Forest} {a' a : ℕ} → Back e e' → Keeps e old new a' a → Keeps e' new old a a'
keeps_back b (Keeps.above x y) = Keeps.above y x
keeps_back b (Keeps.full n o k h p q) = Keeps.full o n (kept_back b k) (sym h) q p
keeps_back b (Keeps.void n o k p q) = Keeps.void o n (keeps_back b k) q p

-- what is above the root is kept by nothing else, and keeps nothing else
pub keeps_nodes : {e : Edit} {old new : Forest} {a' a : ℕ} → Keeps e old new a' a → 1 ≤ a → 1 ≤ a'
keeps_nodes (Keeps.above x y) l = absurd (omega arith)
keeps_nodes (Keeps.full n o k h p q) l = (at_number n).0
keeps_nodes (Keeps.void n o k p q) l = (at_number n).0

pub keeps_old : {e : Edit} {old new : Forest} {a' a : ℕ} → Keeps e old new a' a → 1 ≤ a' → 1 ≤ a
keeps_old (Keeps.above x y) l = absurd (omega arith)
keeps_old (Keeps.full n o k h p q) l = (at_number o).0
keeps_old (Keeps.void n o k p q) l = (at_number o).0

-- a kept slot is an old node's
pub keeps_node : {e : Edit} {old new : Forest} {a' a : ℕ} → Keeps e old new a' a → 1 ≤ a → Numbered 1 0 0 0 old a
keeps_node (Keeps.above x y) l = absurd (omega arith)
keeps_node (Keeps.full {q = q} {m = m} {t = t} {f = f} hn ho k s ln lo) l = record { parent = q; child = m; token = t; forest = f; node = ho }
keeps_node (Keeps.void {q = q} {m = m} {t = t} {f = f} hn ho k zn zo) l = record { parent = q; child = m; token = t; forest = f; node = ho }

-- and the one that keeps it is the new tree's
pub keeps_new : {e : Edit} {old new : Forest} {a' a : ℕ} → Keeps e old new a' a → 1 ≤ a → Numbered 1 0 0 0 new a'
keeps_new (Keeps.above x y) l = absurd (omega arith)
keeps_new (Keeps.full {q' = q} {m' = m} {t' = t} {f' = f} hn ho k s ln lo) l = record { parent = q; child = m; token = t; forest = f; node = hn }
keeps_new (Keeps.void {q' = q} {t' = t} {m = m} {f' = f} hn ho k zn zo) l = record { parent = q; child = m; token = t; forest = f; node = hn }

-- a node without tokens keeps a slot only below its parent's, at the same place
pub record Below (e : Edit) (old new : Forest) (q m a : ℕ) : Type 0 where
  pub parent : ℕ
  pub keeps : Keeps e old new q parent
  pub token : ℕ
  pub forest : Forest
  pub node : Node old a parent m token forest
  pub none : own forest ≡ 0

pub void_below : {e : Edit} {old new : Forest} {a' q m t a : ℕ} {f : Forest} → Node new a' q m t f → own f ≡ 0 → Keeps e old new a' a → Below e old new q m a
void_below h z (Keeps.above x y) = absurd (omega (arith, (at_number h).0))
void_below h z (Keeps.full hn ho k s ln lo) = absurd (omega (arith, ln, ap own (at_one hn h).forest))
void_below {e} {old} {new} {a'} {q} {m} {t} {a} h z (Keeps.void {q' = q'} {q = p} {m = c} {t = u} {f = f} hn ho k zn zo) =
    let s = at_one hn h in
    record { parent = p; keeps = rw s.parent at k; token = u; forest = f; node = rw s.child at ho; none = zo }

module _ {G : Grammar} (g : Prepared G) {old new : Forest} where
  -- a new node keeps one slot
  pub keeps_one : Derives G (G.start ∷ []) old → {e : Edit} {a' a b : ℕ} → Keeps e old new a' a → Keeps e old new a' b → a ≡ b
  keeps_one d (Keeps.above x y) (Keeps.above x' y') = omega arith
  keeps_one d (Keeps.above x y) (Keeps.full n o k h p q) = absurd (omega (arith, (at_number n).0))
  keeps_one d (Keeps.above x y) (Keeps.void n o k p q) = absurd (omega (arith, (at_number n).0))
  keeps_one d (Keeps.full n o k h p q) (Keeps.above x y) = absurd (omega (arith, (at_number n).0))
  keeps_one d (Keeps.void n o k p q) (Keeps.above x y) = absurd (omega (arith, (at_number n).0))
  keeps_one d (Keeps.full {t = t} n o k h p q) (Keeps.full {t = s} n' o' k' h' p' q') =
      let z = at_one n n' in
      let e : s ≡ t = kept_one k' (rw z.token at k) in
      at_start g d o (rw e at o') q q' (sym h ∙ ap symbol z.forest ∙ h')
  keeps_one d (Keeps.full n o k h p q) (Keeps.void n' o' k' p' q') = let z = ap own (at_one n n').forest in absurd (omega arith)
  keeps_one d (Keeps.void n o k p q) (Keeps.full n' o' k' h' p' q') = let z = ap own (at_one n n').forest in absurd (omega arith)
  keeps_one d (Keeps.void {q = q} {m = m} n o k p r) (Keeps.void {q = q'} {m = m'} n' o' k' p' r') =
      let z = at_one n n' in
      let e : q' ≡ q = sym (keeps_one d k (rw (sym z.parent) at k')) in
      at_child (omega arith) o (rw (e, sym z.child) at o')

module _ {G : Grammar} (g : Prepared G) {old new : Forest} where
  -- a slot is kept by one new node
  pub keeps_apart : Derives G (G.start ∷ []) new → {e : Edit} {a b s : ℕ} → Keeps e old new a s → Keeps e old new b s → a ≡ b
  keeps_apart d {e} x y = keeps_one g d (keeps_back back x) (keeps_back back y)
    where
      back : Back e (record { place = e.place; removed = length e.inserted; inserted = replicate e.removed (record { kind = 0; tag = 0 }) })
      back = record { place = refl; removed = refl; inserted = length-replicate e.removed (record { kind = 0; tag = 0 }) }

-- Which old node's slot each node of a new tree keeps, computed: for each new node the old tree is searched. What that answers is right.
use Prim.Native.Nat.{ℕ, zero, suc, ◌+◌, ◌-◌, ◌≤◌, ◌<◌}
use Rattle.std.specs.Prelude.{◌≡◌, Bool, true, false, ◌&&◌, List, [], ◌∷◌, ◌++◌, get_or, eqb, leb, ltb}
use Rattle.std.proofs.Math.Path.{refl, ap}
use Rattle.std.proofs.Common.{sym, ◌∙◌, length-append}
use Rattle.std.proofs.Math.Option.{Option, none, some}
use Rattle.std.proofs.Math.ListN.{length}
use borrow.Author.Tests.{eqb-true, eqb-false, eq-eqb, leb-true, le-leb, ltb-true, ltb-false, lt-ltb, le-ltb}
use native.Mathlib.Omega.{arith}
use Rattle.base.specs.Choose.{choose, choose_of, never}
use Rattle.grammar.specs.Grammar.{Grammar}
use Rattle.grammar.specs.Prediction.{Prepared}
use Rattle.grammar.specs.Forest.{Forest, size, yield, Derives}
use Rattle.trees.specs.Area.{top, slots}
use Rattle.edits.specs.Keeping.{Edit, Kept, before, after, symbol, own, At, Node, Keeps, Holds, Holding}
use Rattle.edits.specs.Places.{at_number, at_one}
use Rattle.edits.specs.One.{kept_one, keeps_one, keeps_old, keeps_node, void_below}
use Rattle.edits.specs.Giving.{at_slot}

-- ---- the first node of a tree that passes a test

-- of a node: its parent, its child number, its first token, and the node itself with what stands behind it
abbrev pub Test : Type 0
Test = ℕ → ℕ → ℕ → Forest → Bool

-- v, or where that is 0 what comes next
unfoldable pub or_else : ℕ → (Unit {0} → ℕ) → ℕ
or_else zero f = f tt
or_else (suc v) f = suc v

-- 1 + its number, or 0 where there is none
unfoldable pub seek : Test → (i par n j : ℕ) → Forest → ℕ
seek h i par n j Forest.nil = 0
seek h i par n j (Forest.leaf s a g r) = choose (h par n j (Forest.leaf s a g r)) (λ _. suc i) (λ _. seek h (suc i) par (suc n) (suc j) r)
seek h i par n j (Forest.node s M p k r) =
    choose (h par n j (Forest.node s M p k r)) (λ _. suc i)
    (λ _. or_else (seek h (suc i) i 0 j k) (λ _. seek h (suc i + size k) par (suc n) (j + length (yield k)) r))

data Sought (h : Test) (i par n j : ℕ) (F : Forest) : ℕ → Type 0 where
  met : {a q m t : ℕ} {f : Forest} → At i par n j F a q m t f → h q m t f ≡ true → Sought h i par n j F (suc a)
  missed : ((a q m t : ℕ) (f : Forest) → At i par n j F a q m t f → h q m t f ≡ false) → Sought h i par n j F 0

no_node : {A : Type 0} {i par n j a q m t : ℕ} {f : Forest} → At i par n j Forest.nil a q m t f → A
no_node (At.here x y z w l) = absurd (omega arith)

past_leaf : {h : Test} {i par n j s a g v : ℕ} {r : Forest} → h par n j (Forest.leaf s a g r) ≡ false → Sought h (suc i) par (suc n) (suc j) r v → Sought h i par n j (Forest.leaf s a g r) v
past_leaf e (Sought.met u z) = Sought.met (At.past_leaf u) z
past_leaf {h} {i} {par} {n} {j} {s} {a = b} {g} {r = r} e (Sought.missed f) = Sought.missed (λ a q m t d u. go f u)
  where
    go : {a q m t : ℕ} {d : Forest} → ((a q m t : ℕ) (d : Forest) → At (suc i) par (suc n) (suc j) r a q m t d → h q m t d ≡ false) → At i par n j (Forest.leaf s b g r) a q m t d → h q m t d ≡ false
    go f (At.here x y z w l) = rw (y, z, w) e
    go {a} {q} {m} {t} {d} f (At.past_leaf u) = f a q m t d u

past_node : {h : Test} {i par n j s M p v w : ℕ} {k r : Forest} → h par n j (Forest.node s M p k r) ≡ false → Sought h (suc i) i 0 j k v
    → Sought h (suc i + size k) par (suc n) (j + length (yield k)) r w → Sought h i par n j (Forest.node s M p k r) (or_else v (λ _. w))
unfolding or_else
past_node e (Sought.met u z) _ = Sought.met (At.inside u) z
past_node e (Sought.missed f) (Sought.met u z) = Sought.met (At.past_node u) z
past_node {h} {i} {par} {n} {j} {s} {M} {p} {k = k} {r = r} e (Sought.missed f) (Sought.missed g) = Sought.missed (λ a q m t d u. go f g u)
  where
    go : {a q m t : ℕ} {d : Forest} → ((a q m t : ℕ) (d : Forest) → At (suc i) i 0 j k a q m t d → h q m t d ≡ false)
        → ((a q m t : ℕ) (d : Forest) → At (suc i + size k) par (suc n) (j + length (yield k)) r a q m t d → h q m t d ≡ false)
        → At i par n j (Forest.node s M p k r) a q m t d → h q m t d ≡ false
    go f g (At.here x y z w l) = rw (y, z, w) e
    go {a} {q} {m} {t} {d} f g (At.inside u) = f a q m t d u
    go {a} {q} {m} {t} {d} f g (At.past_node u) = g a q m t d u

seek_right : (h : Test) (i par n j : ℕ) (F : Forest) → Sought h i par n j F (seek h i par n j F)
unfolding seek
seek_right h i par n j Forest.nil = Sought.missed (λ a q m t f u. no_node u)
seek_right h i par n j (Forest.leaf s a g r) =
    let l : 1 ≤ suc (size r) = omega arith in
    choose_of (Sought h i par n j (Forest.leaf s a g r)) (h par n j (Forest.leaf s a g r)) _ _ (λ e. Sought.met (At.here refl refl refl refl l) e)
    (λ e. past_leaf e (seek_right h (suc i) par (suc n) (suc j) r))
seek_right h i par n j (Forest.node s M p k r) =
    let l : 1 ≤ suc (size k + size r) = omega arith in
    choose_of (Sought h i par n j (Forest.node s M p k r)) (h par n j (Forest.node s M p k r)) _ _ (λ e. Sought.met (At.here refl refl refl refl l) e)
    (λ e. past_node e (seek_right h (suc i) i 0 j k) (seek_right h (suc i + size k) par (suc n) (j + length (yield k)) r))

-- ---- the two tests

pub both_true : (a b : Bool) → (a && b) ≡ true → (a ≡ true) × (b ≡ true)
both_true true b e = (refl, e)
both_true false b e = never (cc)

-- a node of symbol x with tokens, that starts with token t
unfoldable pub starts : ℕ → ℕ → Test
starts x t q m s f = leb 1 (own f) && (eqb s t && eqb x (symbol f))

starts_true : (x t q m s : ℕ) (f : Forest) → starts x t q m s f ≡ true → (1 ≤ own f) × (s ≡ t) × (x ≡ symbol f)
unfolding starts
starts_true x t q m s f e =
    let u = both_true _ _ e in
    let v = both_true _ _ u.1 in
    (leb-true 1 (own f) u.0, eqb-true s t v.0, eqb-true x (symbol f) v.1)

starts_false : (x t q m s : ℕ) (f : Forest) → 1 ≤ own f → s ≡ t → x ≡ symbol f → starts x t q m s f ≡ false → ⊥
unfolding starts
starts_false x t q m s f l d c e =
    let h : ◌≡◌ {A = Bool} true false = rw (le-leb 1 (own f) l, eq-eqb s t d, eq-eqb x (symbol f) c) at e in
    never (cc)

-- child n of node p, without tokens
unfoldable pub stands : ℕ → ℕ → Test
stands p n q m s f = eqb (own f) 0 && (eqb q p && eqb m n)

stands_true : (p n q m s : ℕ) (f : Forest) → stands p n q m s f ≡ true → (own f ≡ 0) × (q ≡ p) × (m ≡ n)
unfolding stands
stands_true p n q m s f e =
    let u = both_true _ _ e in
    let v = both_true _ _ u.1 in
    (eqb-true (own f) 0 u.0, eqb-true q p v.0, eqb-true m n v.1)

stands_false : (p n q m s : ℕ) (f : Forest) → own f ≡ 0 → q ≡ p → m ≡ n → stands p n q m s f ≡ false → ⊥
unfolding stands
stands_false p n q m s f l d c e =
    let h : ◌≡◌ {A = Bool} true false = rw (eq-eqb (own f) 0 l, eq-eqb q p d, eq-eqb m n c) at e in
    never (cc)

-- ---- the old node whose slot a new one keeps

-- the number that the new token j had, where it is kept
unfoldable pub was : Edit → ℕ → Option ℕ
was e j =
    choose (ltb j e.place) (λ _. some j)
    (λ _. choose (ltb j (e.place + length e.inserted)) (λ _. none) (λ _. some (j - (e.place + length e.inserted) + (e.place + e.removed))))

was_kept : {e : Edit} {t' t : ℕ} → Kept e t' t → was e t' ≡ some t
unfolding was choose
was_kept {e} {t'} {t} (before x l) = let h : t' < e.place = omega arith in rw (lt-ltb t' e.place h, x)
was_kept {e} {t'} {t} (after d x y) =
    let h : e.place ≤ t' = omega arith in
    let k : e.place + length e.inserted ≤ t' = omega arith in
    let z : t' - (e.place + length e.inserted) + (e.place + e.removed) ≡ t = omega arith in
    rw (le-ltb t' e.place h, le-ltb t' (e.place + length e.inserted) k, z)

some_eq : {a b : ℕ} → ◌≡◌ {A = Option ℕ} (some a) (some b) → a ≡ b
some_eq e = cc

kept_was : {t : ℕ} (e : Edit) (t' : ℕ) → was e t' ≡ some t → Kept e t' t
unfolding was
kept_was {t} e t' =
    choose_of (λ o. o ≡ some t → Kept e t' t) (ltb t' e.place) _ _
    (λ z h. before (some_eq h) (let v = ltb-true t' e.place z in let w = some_eq h in omega arith))
    (λ z. choose_of (λ o. o ≡ some t → Kept e t' t) (ltb t' (e.place + length e.inserted)) _ _
    (λ y h. never (cc))
    (λ y h. let v = ltb-false t' (e.place + length e.inserted) y in let w = some_eq h in
    after (t' - (e.place + length e.inserted)) (omega arith) (omega arith)))

-- of a node of symbol x whose first token was such; and of child n of what keeps the slot of p, where v is 1 + p, or 0
unfoldable pub full : Forest → ℕ → Option ℕ → ℕ
full old x none = 0
full old x (some t) = seek (starts x t) 1 0 0 0 old

unfoldable pub void : Forest → ℕ → ℕ → ℕ
void old n zero = 0
void old n (suc p) = seek (stands p n) 1 0 0 0 old

-- of a node of symbol x with so many tokens, that starts with token t
unfoldable pub source : Edit → Forest → (v n t x tokens : ℕ) → ℕ
source e old v n t x tokens = choose (eqb tokens 0) (λ _. void old n v) (λ _. full old x (was e t))

-- the same for each node of a forest, in preorder; v is its parent's
unfoldable pub matches : Edit → Forest → (v n t : ℕ) → Forest → List ℕ
matches e old v n t Forest.nil = []
matches e old v n t (Forest.leaf s a g r) = source e old v n t a 1 ∷ matches e old v (suc n) (suc t) r
matches e old v n t (Forest.node s M p k r) =
    let u : ℕ = source e old v n t M (length (yield k)) in
    u ∷ (matches e old u 0 t k ++ matches e old v (suc n) (t + length (yield k)) r)

-- ---- it is right

-- 1 + the number of the old node whose slot node a' keeps, or 0
data Match (e : Edit) (old new : Forest) (a' : ℕ) : ℕ → Type 0 where
  keeps : {a : ℕ} → Keeps e old new a' a → Match e old new a' (suc a)
  makes : ((a : ℕ) → Keeps e old new a' a → ⊥) → Match e old new a' 0

-- the same of each node from number i on
data Marked (e : Edit) (old new : Forest) : ℕ → List ℕ → Type 0 where
  nil : {i : ℕ} → Marked e old new i []
  cons : {i v : ℕ} {vs : List ℕ} → Match e old new i v → Marked e old new (suc i) vs → Marked e old new i (v ∷ vs)

marked_append : {e : Edit} {old new : Forest} {i j : ℕ} {us vs : List ℕ} → Marked e old new i us → j ≡ i + length us → Marked e old new j vs → Marked e old new i (us ++ vs)
marked_append {i = i} {j = j} Marked.nil e y = let z : j ≡ i = omega arith in rw z at y
marked_append (Marked.cons m x) e y = Marked.cons m (marked_append x (omega arith) y)

marked_at : {e : Edit} {old new : Forest} {i : ℕ} {vs : List ℕ} → Marked e old new i vs → (j : ℕ) → j < length vs → Match e old new (i + j) (get_or vs j 0)
marked_at Marked.nil j l = absurd (omega arith)
marked_at {i = i} (Marked.cons m x) zero l = let z : i + 0 ≡ i = omega arith in rw z m
marked_at {i = i} (Marked.cons m x) (suc j) l = let z : i + suc j ≡ suc i + j = omega arith in rw z (marked_at x j (omega arith))

length_matches : (e : Edit) (old : Forest) (v n t : ℕ) (F : Forest) → length (matches e old v n t F) ≡ size F
unfolding matches
length_matches e old v n t Forest.nil = refl
length_matches e old v n t (Forest.leaf s a g r) = ap suc (length_matches e old v (suc n) (suc t) r)
length_matches e old v n t (Forest.node s M p k r) =
    let u : ℕ = source e old v n t M (length (yield k)) in
    let x = length_matches e old u 0 t k in
    let y = length_matches e old v (suc n) (t + length (yield k)) r in
    omega (arith, length-append (matches e old u 0 t k) (matches e old v (suc n) (t + length (yield k)) r))

module _ {G : Grammar} (g : Prepared G) {e : Edit} {old new : Forest} (d : Derives G (G.start ∷ []) old) where
  full_right : {a' q' m' t' : ℕ} {f' : Forest} (o : Option ℕ) → was e t' ≡ o → Node new a' q' m' t' f' → 1 ≤ own f' → Match e old new a' (full old (symbol f') o)
  unfolding full
  full_right {a'} {q'} {m'} {t'} {f'} none w h l = Match.makes go
    where
      go : (a : ℕ) → Keeps e old new a' a → ⊥
      go a (Keeps.above x y) = omega (arith, (at_number h).0)
      go a (Keeps.full n o k s p q) = let z = was_kept k in let y = ap (was e) (at_one n h).token in never (cc)
      go a (Keeps.void n o k p q) = omega (arith, ap own (at_one n h).forest)
  full_right {a'} {q'} {m'} {t'} {f'} (some t) w h l = found (seek_right (starts (symbol f') t) 1 0 0 0 old)
    where
      absent : ((a q m s : ℕ) (f : Forest) → Node old a q m s f → starts (symbol f') t q m s f ≡ false) → (a : ℕ) → Keeps e old new a' a → ⊥
      absent f a (Keeps.above x y) = omega (arith, (at_number h).0)
      absent f a (Keeps.full {q = q} {m = m} {t = s} {f = d} n o k c p r) =
          let z = at_one n h in
          starts_false (symbol f') t q m s d r (kept_one k (rw (sym z.token) at (kept_was e t' w))) (sym (ap symbol z.forest) ∙ c) (f a q m s d o)
      absent f a (Keeps.void n o k p q) = omega (arith, ap own (at_one n h).forest)

      found : {v : ℕ} → Sought (starts (symbol f') t) 1 0 0 0 old v → Match e old new a' v
      found (Sought.met {q = q} {m = m} {t = s} {f = f} u x) = let y = starts_true (symbol f') t q m s f x in Match.keeps (Keeps.full h u (rw (sym y.1) at (kept_was e t' w)) y.2 l y.0)
      found (Sought.missed f) = Match.makes (absent f)

  void_right : {a' q' m' t' v : ℕ} {f' : Forest} → Node new a' q' m' t' f' → own f' ≡ 0 → Match e old new q' v → Match e old new a' (void old m' v)
  unfolding void
  void_right h z (Match.makes g) = Match.makes (λ a k. let b = void_below h z k in g b.parent b.keeps)
  void_right {a'} {q'} {m'} {f' = f'} h z (Match.keeps {a = p} k) = found (seek_right (stands p m') 1 0 0 0 old)
    where
      found : {v : ℕ} → Sought (stands p m') 1 0 0 0 old v → Match e old new a' v
      found (Sought.met {q = q} {m = m} {t = s} {f = f} u x) = let y = stands_true p m' q m s f x in Match.keeps (Keeps.void h (rw y.2 at u) (rw (sym y.1) at k) z y.0)
      found (Sought.missed f) =
          Match.makes (λ a x. let b = void_below h z x in stands_false p m' b.parent m' b.token b.forest b.none (keeps_one g d b.keeps k) refl (f a b.parent m' b.token b.forest b.node))

  source_right : {a' q' m' t' v : ℕ} {f' : Forest} → Node new a' q' m' t' f' → Match e old new q' v → Match e old new a' (source e old v m' t' (symbol f') (own f'))
  unfolding source
  source_right {a'} {t' = t'} {f' = f'} h k =
      choose_of (Match e old new a') (eqb (own f') 0) _ _ (λ z. void_right h (eqb-true (own f') 0 z) k)
      (λ z. full_right (was e t') refl h (let y = eqb-false (own f') 0 z in omega arith))

  matches_right : (i par n j v : ℕ) (F : Forest) → ((a q m t : ℕ) (f : Forest) → At i par n j F a q m t f → Node new a q m t f) → Match e old new par v → Marked e old new i (matches e old v n j F)
  unfolding matches
  matches_right i par n j v Forest.nil h k = Marked.nil
  matches_right i par n j v (Forest.leaf s a g r) h k =
      let l : 1 ≤ suc (size r) = omega arith in
      Marked.cons (source_right (h i par n j (Forest.leaf s a g r) (At.here refl refl refl refl l)) k)
      (matches_right (suc i) par (suc n) (suc j) v r (λ a q m t f u. h a q m t f (At.past_leaf u)) k)
  matches_right i par n j v (Forest.node s M p c r) h k =
      let l : 1 ≤ suc (size c + size r) = omega arith in
      let u : ℕ = source e old v n j M (length (yield c)) in
      let z : Match e old new i u = source_right (h i par n j (Forest.node s M p c r) (At.here refl refl refl refl l)) k in
      let x : Marked e old new (suc i) (matches e old u 0 j c) = matches_right (suc i) i 0 j u c (λ a q m t f u. h a q m t f (At.inside u)) z in
      let y : Marked e old new (suc i + size c) (matches e old v (suc n) (j + length (yield c)) r) =
      matches_right (suc i + size c) par (suc n) (j + length (yield c)) v r (λ a q m t f u. h a q m t f (At.past_node u)) k in
      let d : suc i + size c ≡ suc i + length (matches e old u 0 j c) = omega (arith, length_matches e old u 0 j c) in
      Marked.cons z (marked_append x d y)

-- ---- the slots that the new tree's nodes keep, in preorder, 0 for none

-- above the root there is no slot
unfoldable pub slot_of : List ℕ → ℕ → ℕ
slot_of ss zero = 0
slot_of ss (suc zero) = 0
slot_of ss (suc (suc i)) = get_or ss i 0

unfoldable pub slots_of : List ℕ → List ℕ → List ℕ
slots_of ss [] = []
slots_of ss (v ∷ vs) = slot_of ss v ∷ slots_of ss vs

unfoldable pub held : Edit → Forest → Forest → List ℕ
held e old new = slots_of (slots old) (matches e old 1 0 0 new)

length_slots_of : (ss vs : List ℕ) → length (slots_of ss vs) ≡ length vs
unfolding slots_of
length_slots_of ss [] = refl
length_slots_of ss (v ∷ vs) = ap suc (length_slots_of ss vs)

slots_of_at : (ss vs : List ℕ) (i : ℕ) → i < length vs → get_or (slots_of ss vs) i 0 ≡ slot_of ss (get_or vs i 0)
unfolding slots_of
slots_of_at ss [] i l = absurd (omega arith)
slots_of_at ss (v ∷ vs) zero l = refl
slots_of_at ss (v ∷ vs) (suc i) l = slots_of_at ss vs i (omega arith)

match_holds : {e : Edit} {old new : Forest} {i v : ℕ} → Match e old new (suc i) v → Holds e old new (suc i) (slot_of (slots old) v)
unfolding slot_of
match_holds (Match.makes f) = Holds.makes f
match_holds {e} {old} {new} {i} (Match.keeps {a = a} k) = go a k
  where
    go : (a : ℕ) → Keeps e old new (suc i) a → Holds e old new (suc i) (slot_of (slots old) (suc a))
    go zero k = absurd (omega (arith, keeps_old k (omega arith)))
    go (suc a) k =
        let n = keeps_node k (omega arith) in
        let s = at_slot n.node in
        let z : s.place ≡ a = omega (arith, s.number) in
        let y : top n.forest ≡ get_or (slots old) a 0 = sym s.is ∙ ap (λ (x : ℕ). get_or (slots old) x 0) z in
        rw y at (Holds.keeps k n.node)

pub held_right : {G : Grammar} → Prepared G → {e : Edit} {old new : Forest} → Derives G (G.start ∷ []) old → Holding e old new (held e old new)
unfolding held
held_right g {e} {old} {new} d =
    let m = matches_right g {e = e} d 1 0 0 0 1 new (λ a q m t f u. u) (Match.keeps (Keeps.above refl refl)) in
    let vs : List ℕ = matches e old 1 0 0 new in
    let l = length_matches e old 1 0 0 new in
    record {
      long = length_slots_of (slots old) vs ∙ l;
      each = λ i h. let z : 1 + i ≡ suc i = omega arith in rw (slots_of_at (slots old) vs i (omega arith)) (match_holds (rw z at (marked_at m i (omega arith))));
    }

-- "below such a subtree's top no byte changes": what the tree area keeps of a subtree that is carried along.
use Rattle.std.specs.Prelude.{ℕ, zero, suc, ◌+◌, ◌-◌, ◌≤◌, ◌<◌, ◌≡◌, refl, List, [], ◌∷◌, ◌++◌, length, get_or}
use Rattle.std.proofs.Common.{sym, ap, ◌∙◌, subst, get_or-append-add, arith}
use Rattle.std.proofs.Math.ListN.{get_or-append}
use Rattle.grammar.specs.Each.{each_at}
use Rattle.grammar.specs.Grammar.{Grammar}
use Rattle.grammar.specs.Prediction.{Prepared}
use Rattle.grammar.specs.Forest.{Forest, size, Derives}
use Rattle.trees.specs.Area.{slot_at, slot_bytes, top, slots, Linked, Area}
use Rattle.trees.specs.Spread.{length_slots}
use Rattle.plain.specs.Traced.{Same}
use Rattle.plain.specs.Alike.{same_size}
use Rattle.edits.specs.Keeping.{Edit, symbol, production, below, At, here, inside, past_leaf, past_node, Node, Keeps, Holds, Holding, Given, Altered}
use Rattle.edits.specs.Places.{tree_size, at_number, at_some, at_one, at_node, at_below}
use Rattle.edits.specs.Giving.{at_slot}
use Rattle.edits.specs.One.{keeps_one}
use Rattle.edits.specs.Edited.{Trees}
use Rattle.edits.specs.After.{first, first_below, tree_size_lem, Carried, carried_keeps, after_carries}

-- ---- the slots of nodes

-- the slot of node a stands in its place in the list of slots
slot_at_lem : {i par n j a q m t : ℕ} {F f : Forest} (c : ℕ) → At i par n j F a q m t f → a ≡ i + c → get_or (slots F) c 0 ≡ top f
slot_at_lem {F = F} c h e =
    let o = at_slot h in
    let z : c ≡ o.place = omega (arith, o.number) in
    ap (λ (x : ℕ). get_or (slots F) x 0) z ∙ o.is

-- what is held is given
given_held : {held hs ss : List ℕ} {s : ℕ} (c : ℕ) → Given held s hs ss → 1 ≤ get_or hs c 0 → get_or ss c 0 ≡ get_or hs c 0
given_held c Given.nil l = refl
given_held zero (Given.kept x h) l = refl
given_held (suc c) (Given.kept x h) l = given_held c h l
given_held zero (Given.made x y z h) l = absurd (omega arith)
given_held (suc c) (Given.made x y z h) l = given_held c h l

module _ {G : Grammar} (g : Prepared G) {e : Edit} {old new : Forest} (d : Derives G (G.start ∷ []) old) where
  -- what a node holds is the slot of the node that it keeps
  holds_slot : {a' a q m t x : ℕ} {f : Forest} → Holds e old new a' x → Keeps e old new a' a → Node old a q m t f → x ≡ top f
  holds_slot {a'} {a} (Holds.keeps {a = b} k n) k' o =
      let z : b ≡ a = keeps_one g d k k' in
      ap top (at_one (rw z at n) o).forest
  holds_slot {a = a} (Holds.makes h) k' o = absurd (h a k')

  -- a node that keeps a slot has it
  pub kept_slot : {held : List ℕ} {a' q' m' t' a q m t : ℕ} {f' f : Forest} → Holding e old new held → Given held 1 held (slots new)
      → Keeps e old new a' a → Node new a' q' m' t' f' → Node old a q m t f → 1 ≤ top f → top f' ≡ top f
  kept_slot {held} {a'} {f = f} u v k n o l =
      let w = at_number n in
      let i = a' - 1 in
      let z : suc i ≡ a' = omega arith in
      let h : get_or held i 0 ≡ top f = holds_slot (u.each i (omega arith)) (rw z k) o in
      sym (slot_at_lem i n (omega arith)) ∙ given_held i v (omega arith) ∙ h

-- forests that differ in slots only, and not in these either
same_equal : {f f' : Forest} → Same f f' → ((c : ℕ) → c < size f → get_or (slots f) c 0 ≡ get_or (slots f') c 0) → f ≡ f'
same_equal Same.nil h = refl
same_equal (Same.leaf {s = s} {s' = s'} {r = r} {r' = r'} q) h =
    let x : s ≡ s' = h 0 (omega arith) in
    let y : r ≡ r' = same_equal q (λ c l. h (suc c) (omega arith)) in
    cc
same_equal (Same.node {s = s} {s' = s'} {k = k} {k' = k'} {r = r} {r' = r'} q q') h =
    let x : s ≡ s' = h 0 (omega arith) in
    let n = same_size q in
    let u = length_slots k in
    let v = length_slots k' in
    let y : k ≡ k' = same_equal q (λ c l. sym (get_or-append (slots k) (slots r) 0 c (omega arith)) ∙ h (suc c) (omega arith)
    ∙ get_or-append (slots k') (slots r') 0 c (omega arith)) in
    let z : r ≡ r' = same_equal q' (λ c l. let i : length (slots k') + c ≡ length (slots k) + c = omega arith in
    sym (get_or-append-add (slots k) (slots r) c 0) ∙ h (suc (length (slots k) + c)) (omega arith)
    ∙ ap (λ (i : ℕ). get_or (slots k' ++ slots r') i 0) (sym i) ∙ get_or-append-add (slots k') (slots r') c 0) in
    cc

-- ---- the bytes

-- the tag of a forest's first node, 0 unless a leaf
abbrev pub tag : Forest → ℕ
tag Forest.nil = 0
tag (Forest.leaf s a g r) = g
tag (Forest.node s M p k r) = 0

-- the first node's own bytes are as they should be, with some parent and next sibling, and its children are linked to it
pub record Written (b : List ℕ) (f : Forest) : Type 0 where
  pub parent : ℕ
  pub next : ℕ
  pub is : slot_at b (top f) ≡ slot_bytes (symbol f) (production f) parent (top (below f)) next (tag f)
  pub linked : Linked b (top f) (below f)

-- every node of a linked forest is written so
pub at_written : {b : List ℕ} {o i par n j a q m t : ℕ} {F f : Forest} → Linked b o F → At i par n j F a q m t f → Written b f
at_written Linked.nil (here x y z w l) = absurd (omega arith)
at_written (Linked.leaf {parent = o} {r = r} e g h) (here x y z w l) = record { parent = o; next = top r; is = e; linked = Linked.nil }
at_written (Linked.node {parent = o} {r = r} e k h) (here x y z w l) = record { parent = o; next = top r; is = e; linked = k }
at_written (Linked.leaf e g h) (past_leaf s) = at_written h s
at_written (Linked.node e k h) (inside s) = at_written k s
at_written (Linked.node e k h) (past_node s) = at_written h s

-- a forest below one slot has the same bytes in two areas
linked_same : {b b' : List ℕ} {o i par n j a q m t : ℕ} {F f : Forest} → Linked b o F → Linked b' o F → At i par n j F a q m t f → slot_at b' (top f) ≡ slot_at b (top f)
linked_same Linked.nil Linked.nil (here x y z w l) = absurd (omega arith)
linked_same (Linked.leaf e g h) (Linked.leaf e' g' h') (here x y z w l) = e' ∙ sym e
linked_same (Linked.node e k h) (Linked.node e' k' h') (here x y z w l) = e' ∙ sym e
linked_same (Linked.leaf e g h) (Linked.leaf e' g' h') (past_leaf s) = linked_same h h' s
linked_same (Linked.node e k h) (Linked.node e' k' h') (inside s) = linked_same k k' s
linked_same (Linked.node e k h) (Linked.node e' k' h') (past_node s) = linked_same h h' s

-- the same node with other siblings
first_tops : (f f' : Forest) → Same (first f) (first f') → (symbol f' ≡ symbol f) × (production f' ≡ production f) × (tag f' ≡ tag f)
first_tops Forest.nil Forest.nil h = (refl, refl, refl)
first_tops (Forest.leaf s a g r) (Forest.leaf s' a' g' r') (Same.leaf h) = (refl, refl, refl)
first_tops (Forest.node s M p k r) (Forest.node s' M' p' k' r') (Same.node h i) = (refl, refl, refl)
first_tops _ _ h = elim h [ ]

-- a node is written as another of the same slot, symbol, production, tag and children
written_as : {b : List ℕ} (f f' : Forest) → top f' ≡ top f → (symbol f' ≡ symbol f) × (production f' ≡ production f) × (tag f' ≡ tag f) → below f' ≡ below f
    → Written b f' → Written b f
written_as {b} f f' x y z w =
    let i = w.is in
    let u = y.0 in
    let v = y.1 in
    let t = y.2 in
    record { parent = w.parent; next = w.next; is = cc; linked = subst (λ (k : Forest). Linked b (top f) k) z (subst (λ (s : ℕ). Linked b s (below f')) x w.linked) }

-- a tree has one node more than stand below its top
tree_more : (f : Forest) → 1 ≤ size (below f) → tree_size f ≡ suc (size (below f))
tree_more Forest.nil l = absurd (omega arith)
tree_more (Forest.leaf s a g r) l = absurd (omega arith)
tree_more (Forest.node s M p k r) l = refl

module _ {G : Grammar} {S kept made up : ℕ} {e : Edit} {old new : Forest} {b b' : List ℕ} (h : Trees G e old new) (w : Altered G S e old new kept made up)
    (area : Area S old b) (area' : Area S new b') where
  -- a kept node has the slot that it had
  pub kept_top : {a' q' m' t' a q m t : ℕ} {f' f : Forest} → Keeps e old new a' a → Node new a' q' m' t' f' → Node old a q m t f → top f' ≡ top f
  kept_top {a = a} k n o =
      let l = at_number o in
      let x = each_at (slots old) (a - 1) area.within (omega (arith, length_slots old)) in
      let y = slot_at_lem (a - 1) o (omega arith) in
      kept_slot h.prepared h.first w.holding w.given k n o (omega (arith, x.0, y))

  -- what is below a node that is carried along is the same in both trees, slots and all
  pub carried_below : {a' q' m' t' a q m t : ℕ} {f' f : Forest} → Carried e old new a' f' a f → Node new a' q' m' t' f' → Node old a q m t f → below f' ≡ below f
  carried_below {a'} {t' = t'} {a = a} {t = t} {f' = f'} {f = f} c n o = sym (same_equal s each)
    where
      s : Same (below f) (below f')
      s = first_below f f' c.same

      each : (i : ℕ) → i < size (below f) → get_or (slots (below f)) i 0 ≡ get_or (slots (below f')) i 0
      each i l =
          let x = at_node {i = suc a} {par = a} {n = 0} {j = t} (below f) (suc a + i) (omega arith) (omega arith) in
          let y = at_node {i = suc a'} {par = a'} {n = 0} {j = t'} (below f') (suc a' + i) (omega arith) (omega (arith, same_size s)) in
          let u : a' + suc i ≡ suc a' + i = omega arith in
          let v : a + suc i ≡ suc a + i = omega arith in
          let k : Keeps e old new (suc a' + i) (suc a + i) = rw (← u, ← v) (c.each (suc i) (omega (arith, tree_more f (omega arith)))) in
          slot_at_lem i x.node refl ∙ sym (kept_top k (at_below n y.node) (at_below o x.node)) ∙ sym (slot_at_lem i y.node refl)

  -- in its own slot only the parent and the next sibling may change
  pub carried_top : {a' q' m' t' a q m t : ℕ} {f' f : Forest} → Carried e old new a' f' a f → Node new a' q' m' t' f' → Node old a q m t f → Written b f × Written b' f
  carried_top {f' = f'} {f = f} c n o =
      (at_written area.linked o, written_as f f' (kept_top (carried_keeps c (at_some o)) n o) (first_tops f f' c.same) (carried_below c n o) (at_written area'.linked n))

  -- "below such a subtree's top no byte changes"
  pub carried_bytes : {a' q' m' t' a q m t c q₁ m₁ t₁ : ℕ} {f' f f₁ : Forest} → Carried e old new a' f' a f → Node new a' q' m' t' f' → Node old a q m t f
      → 0 < c → c < tree_size f → Node old (a + c) q₁ m₁ t₁ f₁ → slot_at b' (top f₁) ≡ slot_at b (top f₁)
  carried_bytes {c = zero} k n o i l x = absurd (omega arith)
  carried_bytes {a = a} {t = t} {c = suc c} {f = f} k n o i l x =
      let y = at_node {i = suc a} {par = a} {n = 0} {j = t} (below f) (suc a + c) (omega arith) (omega (arith, tree_size_lem f)) in
      let u : a + suc c ≡ suc a + c = omega arith in
      let z = (at_one (at_below o y.node) (rw u at x)).forest in
      let v = carried_top k n o in
      subst (λ (r : Forest). slot_at b' (top r) ≡ slot_at b (top r)) z (linked_same v.0.linked v.1.linked y.node)

  -- the same said of a kept node that starts after the removed run
  module _ {a' q' m' t' a q m t : ℕ} {f' f : Forest} (k : Keeps e old new a' a) (n : Node new a' q' m' t' f') (o : Node old a q m t f) (l : e.place + e.removed ≤ t) where
    pub untouched_top : Written b f × Written b' f
    untouched_top = carried_top (after_carries h k n o l) n o

    pub untouched : {c q₁ m₁ t₁ : ℕ} {f₁ : Forest} → 0 < c → c < tree_size f → Node old (a + c) q₁ m₁ t₁ f₁ → slot_at b' (top f₁) ≡ slot_at b (top f₁)
    untouched i j x = carried_bytes (after_carries h k n o l) n o i j x

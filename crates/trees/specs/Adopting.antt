-- The first trees of a forest become the children of a slot: their parent links are set, and the next link of the last one is cut.
use Rattle.std.specs.Prelude.{ℕ, zero, suc, ◌+◌, ◌*◌, ◌≤◌, ◌<◌, ◌≡◌, refl, length}
use Rattle.std.proofs.Common.{sym, ap, ◌∙◌, arith}
use mathlib.Core.List.Memᴰ
use mathlib.Core.List.{List, [], ◌∷◌, ◌++◌, Memᴰ}
use Rattle.base.specs.Bytes.{get16, put16, length_put16, byte_put16}
use Rattle.grammar.specs.Each.{Each, each_parts, each_map}
use Rattle.grammar.specs.Forest.{Forest}
use Rattle.trees.specs.Area.{slot_size, max_slots, area_size, tag_space, slot_at, slot_bytes, top, slots, Distinct, Linked, parent_place, next_place}
use Rattle.trees.specs.Nodes.{trees, front, back}
use Rattle.trees.specs.Slots.{Slotted, parent_put, next_put, next_get}

-- ---- as the code does it

-- the bytes, and the slot of the tree behind those adopted
pub record Adopted : Type 0 where
  pub bytes : List ℕ
  pub next : ℕ

-- the tree at s and k more, along the next links, below `parent`
unfoldable pub adopted : ℕ → ℕ → List ℕ → ℕ → Adopted
adopted parent zero b s =
    let w = put16 b (slot_size * s + parent_place) parent in
    record { bytes = put16 w (slot_size * s + next_place) 0; next = get16 w (slot_size * s + next_place) }
adopted parent (suc k) b s =
    let w = put16 b (slot_size * s + parent_place) parent in
    adopted parent k w (get16 w (slot_size * s + next_place))

pub adopted_turn : (parent m k s : ℕ) (b w : List ℕ) (n : ℕ) → m ≡ suc k → w ≡ put16 b (slot_size * s + parent_place) parent → n ≡ get16 w (slot_size * s + next_place)
    → adopted parent k w n ≡ adopted parent m b s
unfolding adopted
adopted_turn parent m k s b w n q e h = rw (q, h, e)

pub adopted_end : (parent k s : ℕ) (b w w' : List ℕ) (n : ℕ) (x : Adopted) → k ≡ 0 → adopted parent k b s ≡ x → w ≡ put16 b (slot_size * s + parent_place) parent
    → n ≡ get16 w (slot_size * s + next_place) → w' ≡ put16 w (slot_size * s + next_place) 0 → (w' ≡ x.bytes) × (n ≡ x.next)
unfolding adopted
adopted_end parent k s b w w' n x z e h i j =
    let q : adopted parent 0 b s ≡ x = rw z at e in
    (j ∙ rw h (ap (λ (a : Adopted). a.bytes) q), i ∙ rw h (ap (λ (a : Adopted). a.next) q))

-- ---- as long as the links stay within the area

-- the slot s and the k slots along its next links lie within
unfoldable pub Reach : List ℕ → ℕ → ℕ → Type 0
Reach b zero s = slot_size * s + slot_size ≤ length b
Reach b (suc k) s = (slot_size * s + slot_size ≤ length b) × Reach b k (get16 b (slot_size * s + next_place))

pub reach_room : (b : List ℕ) (k s : ℕ) → Reach b k s → slot_size * s + slot_size ≤ length b
unfolding Reach
reach_room b zero s h = h
reach_room b (suc k) s h = h.0

-- a parent that is set changes no next link
next_kept : (b : List ℕ) (s v x : ℕ) → get16 (put16 b (slot_size * s + parent_place) v) (slot_size * x + next_place) ≡ get16 b (slot_size * x + next_place)
next_kept b s v x =
    let p = byte_put16 b (slot_size * s + parent_place) v (slot_size * x + next_place) (λ e. omega arith) (λ e. omega arith) in
    let q = byte_put16 b (slot_size * s + parent_place) v (slot_size * x + next_place + 1) (λ e. omega arith) (λ e. omega arith) in
    omega arith

reach_kept : (b : List ℕ) (s v k x : ℕ) → Reach b k x → Reach (put16 b (slot_size * s + parent_place) v) k x
unfolding Reach
reach_kept b s v zero x h = rw (length_put16 b (slot_size * s + parent_place) v) h
reach_kept b s v (suc k) x h =
    (rw (length_put16 b (slot_size * s + parent_place) v) h.0, rw (next_kept b s v x) (reach_kept b s v k (get16 b (slot_size * x + next_place)) h.1))

pub reach_turn : (parent m k s : ℕ) (b w : List ℕ) (n : ℕ) → m ≡ suc k → w ≡ put16 b (slot_size * s + parent_place) parent → n ≡ get16 w (slot_size * s + next_place) → Reach b m s → Reach w k n
unfolding Reach
reach_turn parent m k s b w n q e h i =
    let r : Reach b (suc k) s = rw q at i in
    rw (h, e, next_kept b s parent s) (reach_kept b s parent k (get16 b (slot_size * s + next_place)) r.1)

-- ---- what stays linked where slots are left as they were

pub linked_kept : {b b' : List ℕ} {o : ℕ} {f : Forest} → ((x : ℕ) → Memᴰ x (slots f) → slot_at b' x ≡ slot_at b x) → Linked b o f → Linked b' o f
linked_kept h Linked.nil = Linked.nil
linked_kept h (Linked.leaf {s = s} e g l) = Linked.leaf (h s (Memᴰ.head refl) ∙ e) g (linked_kept (λ x m. h x (Memᴰ.tail m)) l)
linked_kept h (Linked.node {s = s} {k = k} {r = r} e c l) =
    Linked.node (h s (Memᴰ.head refl) ∙ e) (linked_kept (λ x m. h x (Memᴰ.tail (Memᴰ.append_left (slots r) m))) c)
    (linked_kept (λ x m. h x (Memᴰ.tail (Memᴰ.append_right (slots k) m))) l)

-- ---- numbers that stand once

pub distinct_right : (xs ys : List ℕ) → Distinct (xs ++ ys) → Distinct ys
distinct_right [] ys d = d
distinct_right (x ∷ xs) ys (Distinct.cons n d) = distinct_right xs ys d

pub distinct_apart : (xs ys : List ℕ) (x : ℕ) → Distinct (xs ++ ys) → Memᴰ x xs → Memᴰ x ys → ⊥
distinct_apart [] ys x _ i m = elim i [ ]
distinct_apart (y ∷ xs) ys x (Distinct.cons n d) (Memᴰ.head e) m = n (Memᴰ.append_right xs (Memᴰ.cast (sym e) m))
distinct_apart (y ∷ xs) ys x (Distinct.cons n d) (Memᴰ.tail k) m = distinct_apart xs ys x d k m

-- ---- the first trees below a slot

-- a slot's number fits its link
abbrev pub Small : ℕ → Type 0
Small s = s < 65536

pub small_within : {S : ℕ} {xs : List ℕ} → S ≤ max_slots → Each (λ s. (1 ≤ s) × (s ≤ S)) xs → Each Small xs
small_within {S} m = each_map (λ s (j : (1 ≤ s) × (s ≤ S)). omega arith)

pub top_small : (f : Forest) → Each Small (slots f) → top f < 65536
top_small Forest.nil e = omega arith
top_small (Forest.leaf s a g r) (Each.cons l e) = l
top_small (Forest.node s M p k r) (Each.cons l e) = l

-- the first k trees of f, linked in b as siblings below 0, are below `parent` in b', and n is the slot of the tree behind them
pub record Takes (parent k : ℕ) (f : Forest) (b b' : List ℕ) (n : ℕ) : Type 0 where
  pub long : length b' ≡ length b
  pub children : Linked b' parent (front k f)
  pub rest : Linked b' 0 (back k f)
  pub next : n ≡ top (back k f)
  pub others : (x : ℕ) → (Memᴰ x (slots f) → ⊥) → slot_at b' x ≡ slot_at b x

pub top_front : (k : ℕ) (f : Forest) → top f ≡ top (front (suc k) f)
top_front k Forest.nil = refl
top_front k (Forest.leaf s a g r) = refl
top_front k (Forest.node s M p c r) = refl

takes_leaf : {parent k s a g : ℕ} {r : Forest} {b w b' : List ℕ} {n : ℕ} → Slotted b s (slot_bytes a 0 parent 0 (top r) g) w → (Memᴰ s (slots r) → ⊥) → g < tag_space
    → Takes parent (suc k) r w b' n → Takes parent (suc (suc k)) (Forest.leaf s a g r) b b' n
takes_leaf {k = k} {s = s} {r = r} u d l h =
    record {
      long = h.long ∙ u.long;
      children = Linked.leaf (h.others s d ∙ (rw (top_front k r) at u.here)) l h.children;
      rest = h.rest;
      next = h.next;
      others = λ x m. h.others x (λ i. m (Memᴰ.tail i)) ∙ u.others x (λ e. m (Memᴰ.head e));
    }

takes_node : {parent k s M p : ℕ} {c r : Forest} {b w b' : List ℕ} {n : ℕ} → Slotted b s (slot_bytes M p parent (top c) (top r) 0) w → Distinct (s ∷ (slots c ++ slots r)) → Linked b s c
    → Takes parent (suc k) r w b' n → Takes parent (suc (suc k)) (Forest.node s M p c r) b b' n
takes_node {k = k} {s = s} {c = c} {r = r} u (Distinct.cons i d) l h =
    record {
      long = h.long ∙ u.long;
      children = Linked.node (h.others s (λ m. i (Memᴰ.append_right (slots c) m)) ∙ (rw (top_front k r) at u.here))
          (linked_kept (λ x m. h.others x (distinct_apart (slots c) (slots r) x d m) ∙ u.others x (λ e. i (Memᴰ.append_left (slots r) (Memᴰ.cast (sym e) m)))) l)
          h.children;
      rest = h.rest;
      next = h.next;
      others = λ x m. h.others x (λ j. m (Memᴰ.tail (Memᴰ.append_right (slots c) j))) ∙ u.others x (λ e. m (Memᴰ.head e));
    }

-- the last one: its next link is cut
takes_last_leaf : {parent s a g : ℕ} {r : Forest} {b b' : List ℕ} {n : ℕ} → Slotted b s (slot_bytes a 0 parent 0 0 g) b' → n ≡ top r → (Memᴰ s (slots r) → ⊥) → g < tag_space → Linked b 0 r
    → Takes parent 1 (Forest.leaf s a g r) b b' n
takes_last_leaf u e d g l =
    record {
      long = u.long;
      children = Linked.leaf u.here g Linked.nil;
      rest = linked_kept (λ x m. u.others x (λ e. d (Memᴰ.cast (sym e) m))) l;
      next = e;
      others = λ x m. u.others x (λ e. m (Memᴰ.head e));
    }

takes_last_node : {parent s M p : ℕ} {c r : Forest} {b b' : List ℕ} {n : ℕ} → Slotted b s (slot_bytes M p parent (top c) 0 0) b' → n ≡ top r → Distinct (s ∷ (slots c ++ slots r)) → Linked b s c → Linked b 0 r
    → Takes parent 1 (Forest.node s M p c r) b b' n
takes_last_node {c = c} {r = r} u e (Distinct.cons i d) h l =
    record {
      long = u.long;
      children = Linked.node u.here (linked_kept (λ x m. u.others x (λ e. i (Memᴰ.append_left (slots r) (Memᴰ.cast (sym e) m)))) h) Linked.nil;
      rest = linked_kept (λ x m. u.others x (λ e. i (Memᴰ.append_right (slots c) (Memᴰ.cast (sym e) m)))) l;
      next = e;
      others = λ x m. u.others x (λ e. m (Memᴰ.head e));
    }

-- the first slot's parent set, and its next link read
record Step (b : List ℕ) (s a q c n g parent : ℕ) : Type 0 where
  set : Slotted b s (slot_bytes a q parent c n g) (put16 b (slot_size * s + parent_place) parent)
  next : get16 (put16 b (slot_size * s + parent_place) parent) (slot_size * s + next_place) ≡ n
  cut : Slotted b s (slot_bytes a q parent c 0 g) (put16 (put16 b (slot_size * s + parent_place) parent) (slot_size * s + next_place) 0)

step : (b : List ℕ) (s a q c n g parent : ℕ) → slot_at b s ≡ slot_bytes a q 0 c n g → n < 65536 → parent < 65536 → Step b s a q c n g parent
step b s a q c n g parent e l m =
    let u = parent_put b s a q 0 c n g e parent m in
    let w = put16 b (slot_size * s + parent_place) parent in
    let v = next_put w s a q parent c n g u.here 0 (omega arith) in
    record {
      set = u;
      next = next_get w s a q parent c n g u.here l;
      cut = record { long = v.long ∙ u.long; here = v.here; others = λ x d. v.others x d ∙ u.others x d };
    }

-- the first trees of a linked forest lie within
pub linked_reach : (k S : ℕ) (b : List ℕ) (f : Forest) → S ≤ max_slots → length b ≡ area_size S → k < trees f → Linked b 0 f → Each (λ s. (1 ≤ s) × (s ≤ S)) (slots f) → Reach b k (top f)
unfolding Reach
linked_reach k S b Forest.nil m n t l e = absurd (omega arith)
linked_reach zero S b (Forest.leaf s a g r) m n t l (Each.cons i e) = omega arith
linked_reach zero S b (Forest.node s M p c r) m n t l (Each.cons i e) = omega arith
linked_reach (suc k) S b (Forest.leaf s a g r) m n t (Linked.leaf h _ l) (Each.cons i e) =
    let q = next_get b s a 0 0 0 (top r) g h (top_small r (small_within m e)) in
    (omega arith, rw q (linked_reach k S b r m n (omega arith) l e))
linked_reach (suc k) S b (Forest.node s M p c r) m n t (Linked.node h _ l) (Each.cons i e) =
    let o = (each_parts (slots c) e).1 in
    let q = next_get b s M p 0 (top c) (top r) 0 h (top_small r (small_within m o)) in
    (omega arith, rw q (linked_reach k S b r m n (omega arith) l o))

adopted_more : (parent k s : ℕ) (b : List ℕ) (n : ℕ) → get16 (put16 b (slot_size * s + parent_place) parent) (slot_size * s + next_place) ≡ n
    → adopted parent (suc k) b s ≡ adopted parent k (put16 b (slot_size * s + parent_place) parent) n
unfolding adopted
adopted_more parent k s b n e = ap (adopted parent k (put16 b (slot_size * s + parent_place) parent)) e

pub adopts : (parent k : ℕ) (b : List ℕ) (f : Forest) → parent < 65536 → k < trees f → Linked b 0 f → Distinct (slots f) → Each Small (slots f)
    → Takes parent (suc k) f b (adopted parent k b (top f)).bytes (adopted parent k b (top f)).next
unfolding adopted
adopts parent k b Forest.nil m t l d e = absurd (omega arith)
adopts parent zero b (Forest.leaf s a g r) m t (Linked.leaf h i l) (Distinct.cons n d) (Each.cons _ e) =
    let u = step b s a 0 0 (top r) g parent h (top_small r e) m in
    takes_last_leaf u.cut u.next n i l
adopts parent zero b (Forest.node s M p c r) m t (Linked.node h i l) d (Each.cons _ e) =
    let u = step b s M p (top c) (top r) 0 parent h (top_small r (each_parts (slots c) e).1) m in
    takes_last_node u.cut u.next d i l
adopts parent (suc k) b (Forest.leaf s a g r) m t (Linked.leaf h i l) (Distinct.cons n d) (Each.cons _ e) =
    let u = step b s a 0 0 (top r) g parent h (top_small r e) m in
    let w = put16 b (slot_size * s + parent_place) parent in
    let q = adopts parent k w r m (omega arith) (linked_kept (λ x j. u.set.others x (λ z. n (Memᴰ.cast (sym z) j))) l) d e in
    rw (adopted_more parent k s b (top r) u.next) (takes_leaf u.set n i q)
adopts parent (suc k) b (Forest.node s M p c r) m t (Linked.node h i l) (Distinct.cons n d) (Each.cons y e) =
    let u = step b s M p (top c) (top r) 0 parent h (top_small r (each_parts (slots c) e).1) m in
    let w = put16 b (slot_size * s + parent_place) parent in
    let q = adopts parent k w r m (omega arith) (linked_kept (λ x j. u.set.others x (λ z. n (Memᴰ.append_right (slots c) (Memᴰ.cast (sym z) j)))) l)
    (distinct_right (slots c) (slots r) d) (each_parts (slots c) e).1 in
    rw (adopted_more parent k s b (top r) u.next) (takes_node u.set (Distinct.cons n d) i q)

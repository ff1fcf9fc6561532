-- An area laid out from a node list, the last node first: at every node the area holds the forest of the nodes behind it, its trees as siblings below 0.
use Rattle.std.specs.Prelude.{ℕ, zero, suc, ◌+◌, ◌-◌, ◌*◌, ◌≤◌, ◌<◌, ◌≡◌, refl, length}
use Rattle.std.proofs.Common.{sym, ap, ◌∙◌, arith}
use mathlib.Core.List.Memᴰ
use mathlib.Core.List.{List, ◌∷◌, Memᴰ}
use Rattle.base.specs.Blocks.{zeros, length_zeros}
use Rattle.grammar.specs.Each.{Each, each_head, each_tail}
use Rattle.grammar.specs.Forest.{Forest, size, yield}
use Rattle.trees.specs.Area.{slot_size, max_slots, area_size, tag_space, slot_at, slot_bytes, header_bytes, top, slots, Distinct, Linked, Area}
use Rattle.trees.specs.Nodes.{Node, leaf_of, trees, front, back, above, build, Fed}
use Rattle.grammar.specs.Rows.{length_at}
use Rattle.trees.specs.Coded.{node_at, nodes_from, length_nodes, arity_in}
use Rattle.trees.specs.Listing.{node_of}
use Rattle.trees.specs.Spread.{slots_of, Spread, slots_parts, above_leaf, above_inner, tokens_inner, slots_build, size_build}
use Rattle.trees.specs.Members.{each_mem}
use Rattle.trees.specs.Slots.{Slotted, slot_zeros}
use Rattle.trees.specs.Adopting.{Adopted, adopted, Reach, linked_reach, Small, small_within, Takes, adopts, linked_kept, top_front}

-- ---- what the area holds when the nodes es are laid out

pub record Laid (S : ℕ) (ar : ℕ → ℕ) (es : List Node) (head : ℕ) (b : List ℕ) : Type 0 where
  pub long : length b ≡ area_size S
  pub first : head ≡ top (build ar es)
  pub linked : Linked b 0 (build ar es)
  pub free : (s : ℕ) → 1 ≤ s → s ≤ S → (Memᴰ s (slots_of es) → ⊥) → slot_at b s ≡ zeros slot_size

pub laid_none : (S : ℕ) (ar : ℕ → ℕ) (w : List ℕ) (n m : ℕ) (b : List ℕ) → m ≡ area_size S → b ≡ zeros m → Laid S ar (nodes_from w (n - n) n) 0 b
laid_none S ar w n m b l e =
    let q : n - n ≡ 0 = omega arith in
    rw (q, e, l) (record {
      long = length_zeros (area_size S);
      first = refl;
      linked = Linked.nil;
      free = λ s i j k. slot_zeros (area_size S) s (omega arith);
    })

-- where the first trees are to become children of node e, they lie within the area
pub record Ready (ar : ℕ → ℕ) (e : Node) (head : ℕ) (b : List ℕ) : Type 0 where
  pub reach : 0 < e.production → (k : ℕ) → 0 < k → k ≡ ar e.production → Reach b (k - 1) head

pub ready_reach : (ar : ℕ → ℕ) (e : Node) (head k : ℕ) (b : List ℕ) → (e.production ≡ 0 → ⊥) → k ≡ ar e.production → (k ≡ 0 → ⊥) → Ready ar e head b → Reach b (k - 1) head
ready_reach ar e head k b z q n h = h.reach (omega (arith, z)) k (omega (arith, n)) q

-- node e is put before those that are laid out
pub record Lays (ar : ℕ → ℕ) (e : Node) (head : ℕ) (b b' : List ℕ) : Type 0 where
  pub lays : (S : ℕ) (es : List Node) → S ≤ max_slots → Spread S (e ∷ es) → Fed ar (e ∷ es) → Laid S ar es head b → Laid S ar (e ∷ es) e.slot b'

-- the forest of the nodes es, its slots those of es, and e's slot none of them
module _ (S : ℕ) (ar : ℕ → ℕ) (e : Node) (es : List Node) (h : Spread S (e ∷ es)) where
  absent : (s : ℕ) → s ≡ e.slot → Memᴰ s (slots (build ar es)) → ⊥
  absent s y i = go h.once
    where
      go : Distinct (e.slot ∷ slots_of es) → ⊥
      go (Distinct.cons n _) = n (rw (slots_build ar es) at (Memᴰ.cast (sym y) i))

  once_below : Distinct (slots (build ar es))
  once_below = rw (slots_build ar es) (go h.once)
    where
      go : Distinct (e.slot ∷ slots_of es) → Distinct (slots_of es)
      go (Distinct.cons _ d) = d

  small_below : S ≤ max_slots → Each Small (slots (build ar es))
  small_below m = rw (slots_build ar es) (small_within m (each_tail h.within))

  -- what the area is once slot s of e is written, if w is b but for the slots of es
  laid_more : (head : ℕ) (b w c b' : List ℕ) (f : Forest) → above ar e (build ar es) ≡ f → top f ≡ e.slot → Linked b' 0 f → length w ≡ length b
      → ((x : ℕ) → (Memᴰ x (slots (build ar es)) → ⊥) → slot_at w x ≡ slot_at b x) → Slotted w e.slot c b' → Laid S ar es head b → Laid S ar (e ∷ es) e.slot b'
  laid_more head b w c b' f q t l n o u a =
      record {
        long = u.long ∙ n ∙ a.long;
        first = sym t ∙ ap top (sym q);
        linked = rw q l;
        free = λ s i j k. u.others s (λ y. k (Memᴰ.head y)) ∙ o s (λ y. k (Memᴰ.tail (rw (slots_build ar es) at y))) ∙ a.free s i j (λ y. k (Memᴰ.tail y));
      }

module _ (ar : ℕ → ℕ) (e : Node) (head : ℕ) (b b' : List ℕ) where
  pub lay_leaf : e.production ≡ 0 → e.tag < tag_space → Slotted b e.slot (slot_bytes e.symbol e.production 0 0 head e.tag) b' → Lays ar e head b b'
  lay_leaf z l u' = record { lays = go }
    where
      u : Slotted b e.slot (slot_bytes e.symbol 0 0 0 head e.tag) b'
      u = rw z at u'

      go : (S : ℕ) (es : List Node) → S ≤ max_slots → Spread S (e ∷ es) → Fed ar (e ∷ es) → Laid S ar es head b → Laid S ar (e ∷ es) e.slot b'
      go S es m h d a =
          let f = Forest.leaf e.slot e.symbol e.tag (build ar es) in
          let v : Linked b' 0 f =
          Linked.leaf (u.here ∙ ap (λ (y : ℕ). slot_bytes e.symbol 0 0 0 y e.tag) a.first) l (linked_kept (λ y i. u.others y (λ k. absent S ar e es h y k i)) a.linked) in
          let o = above_leaf ar e.slot e.symbol e.tag (build ar es) e.production z in
          laid_more S ar e es h head b b (slot_bytes e.symbol 0 0 0 head e.tag) b' f o refl v refl (λ y i. refl) u a

  -- an inner node, once k trees are its children
  lay_above : (k n first : ℕ) (w : List ℕ) → (e.production ≡ 0 → ⊥) → k ≡ ar e.production → Slotted w e.slot (slot_bytes e.symbol e.production 0 first n 0) b' → (S : ℕ) (es : List Node)
      → Spread S (e ∷ es) → first ≡ top (front k (build ar es)) → Takes e.slot k (build ar es) b w n → Laid S ar es head b → Laid S ar (e ∷ es) e.slot b'
  lay_above k n first w z y u S es h i t a =
      let f = Forest.node e.slot e.symbol e.production (front k (build ar es)) (back k (build ar es)) in
      let o : above ar e (build ar es) ≡ f = rw y (above_inner ar e.slot e.symbol e.tag (build ar es) e.production (omega (arith, z))) in
      let c : slot_at b' e.slot ≡ slot_bytes e.symbol e.production 0 (top (front k (build ar es))) (top (back k (build ar es))) 0 =
      u.here ∙ ap (λ (v : ℕ). slot_bytes e.symbol e.production 0 v n 0) i
      ∙ ap (λ (v : ℕ). slot_bytes e.symbol e.production 0 (top (front k (build ar es))) v 0) t.next in
      let in_front : (v : ℕ) → Memᴰ v (slots (front k (build ar es))) → Memᴰ v (slots (build ar es)) =
      λ v j. rw (slots_parts k (build ar es)) at (Memᴰ.append_left (slots (back k (build ar es))) j) in
      let in_back : (v : ℕ) → Memᴰ v (slots (back k (build ar es))) → Memᴰ v (slots (build ar es)) =
      λ v j. rw (slots_parts k (build ar es)) at (Memᴰ.append_right (slots (front k (build ar es))) j) in
      let l : Linked b' 0 f =
      Linked.node c (linked_kept (λ v j. u.others v (λ q. absent S ar e es h v q (in_front v j))) t.children)
      (linked_kept (λ v j. u.others v (λ q. absent S ar e es h v q (in_back v j))) t.rest) in
      laid_more S ar e es h head b w (slot_bytes e.symbol e.production 0 first n 0) b' f o refl l t.long t.others u a

  pub lay_empty : (k : ℕ) → (e.production ≡ 0 → ⊥) → k ≡ ar e.production → k ≡ 0 → Slotted b e.slot (slot_bytes e.symbol e.production 0 0 head 0) b' → Lays ar e head b b'
  lay_empty k z y i u = record { lays = go }
    where
      go : (S : ℕ) (es : List Node) → S ≤ max_slots → Spread S (e ∷ es) → Fed ar (e ∷ es) → Laid S ar es head b → Laid S ar (e ∷ es) e.slot b'
      go S es m h d a =
          lay_above 0 head 0 b z (sym i ∙ y) u S es h refl
          (record { long = refl; children = Linked.nil; rest = a.linked; next = a.first; others = λ v j. refl }) a

  pub lay_inner : (k n : ℕ) (w : List ℕ) → (e.production ≡ 0 → ⊥) → k ≡ ar e.production → (k ≡ 0 → ⊥) → e.slot < 65536
      → (w ≡ (adopted e.slot (k - 1) b head).bytes) × (n ≡ (adopted e.slot (k - 1) b head).next) → Slotted w e.slot (slot_bytes e.symbol e.production 0 head n 0) b' → Lays ar e head b b'
  lay_inner zero n w z y i l j u = absurd (i refl)
  lay_inner (suc k) n w z y i l j u = record { lays = go }
    where
      go : (S : ℕ) (es : List Node) → S ≤ max_slots → Spread S (e ∷ es) → Fed ar (e ∷ es) → Laid S ar es head b → Laid S ar (e ∷ es) e.slot b'
      go S es m h (Fed.cons d _) a =
          let f = build ar es in
          let g : ar e.production ≤ trees f = d (omega (arith, z)) in
          let t = adopts e.slot k b f l (omega arith) a.linked (once_below S ar e es h) (small_below S ar e es h m) in
          let o : suc k - 1 ≡ k = omega arith in
          let c : adopted e.slot (suc k - 1) b head ≡ adopted e.slot k b (top f) = rw (o, a.first) in
          let t' : Takes e.slot (suc k) f b w n =
          rw (← (j.0 ∙ ap (λ (v : Adopted). v.bytes) c), ← (j.1 ∙ ap (λ (v : Adopted). v.next) c)) at t in
          lay_above (suc k) n head w z y u S es h (a.first ∙ top_front k f) t' a

-- ---- the nodes from the last to the first

-- how many children a production has, as the code reads it
pub arity_at : (rows : List ℕ) (k p : ℕ) → k ≡ length_at rows (p - 1) → k ≡ arity_in rows p
unfolding arity_in
arity_at rows k p h = h

-- what holds of a list's rest where it holds of the list, holds of the nodes from node i on
nodes_behind : (P : List Node → Type 0) → ((e : Node) (es : List Node) → P (e ∷ es) → P es) → (w : List ℕ) (i k j : ℕ) → P (nodes_from w (i + k) j) → P (nodes_from w k (j + i))
nodes_behind P less w zero k j h =
    let q : 0 + k ≡ k = omega arith in
    let r : j + 0 ≡ j = omega arith in
    rw r (rw q at h)
nodes_behind P less w (suc i) k j h =
    let q : suc i + k ≡ suc (i + k) = omega arith in
    let r : j + suc i ≡ j + 1 + i = omega arith in
    rw r (nodes_behind P less w i k (j + 1) (less (node_at w j) (nodes_from w (i + k) (j + 1)) (rw q at h)))

module _ (w : List ℕ) (n i : ℕ) (l : 0 < i) (m : i ≤ n) where
  -- the nodes from the one before node i on
  nodes_before : nodes_from w (n - (i - 1)) (i - 1) ≡ node_at w (i - 1) ∷ nodes_from w (n - i) i
  nodes_before =
      let q : n - (i - 1) ≡ suc (n - i) = omega arith in
      let r : i - 1 + 1 ≡ i = omega arith in
      rw q (ap (λ (j : ℕ). node_at w (i - 1) ∷ nodes_from w (n - i) j) r)

  nodes_from_lem : (P : List Node → Type 0) → ((e : Node) (es : List Node) → P (e ∷ es) → P es) → P (nodes_from w n 0) → P (node_at w (i - 1) ∷ nodes_from w (n - i) i)
  nodes_from_lem P less h =
      let q : i - 1 + (n - (i - 1)) ≡ n = omega arith in
      let r : 0 + (i - 1) ≡ i - 1 = omega arith in
      rw (r, nodes_before) at (nodes_behind P less w (i - 1) (n - (i - 1)) 0 (rw q h))

  spread_from : (S : ℕ) → Spread S (nodes_from w n 0) → Spread S (node_at w (i - 1) ∷ nodes_from w (n - i) i)
  spread_from S = nodes_from_lem (Spread S) (λ e es h. go h.once h.within)
    where
      go : {x : ℕ} {xs : List Node} → Distinct (x ∷ slots_of xs) → Each (λ s. (1 ≤ s) × (s ≤ S)) (x ∷ slots_of xs) → Spread S xs
      go (Distinct.cons _ d) (Each.cons _ v) = record { once = d; within = v }

  fed_from : (ar : ℕ → ℕ) → Fed ar (nodes_from w n 0) → Fed ar (node_at w (i - 1) ∷ nodes_from w (n - i) i)
  fed_from ar = nodes_from_lem (Fed ar) (λ e es h. go h)
    where
      go : {e : Node} {es : List Node} → Fed ar (e ∷ es) → Fed ar es
      go (Fed.cons _ d) = d

  pub spread_room : (S size : ℕ) → size ≡ area_size S → Spread S (nodes_from w n 0) → slot_size * (node_at w (i - 1)).slot + slot_size ≤ size
  spread_room S size e h = let q = each_head (spread_from S h).within in omega arith

  pub laid_ready : (S : ℕ) (ar : ℕ → ℕ) (head : ℕ) (b : List ℕ) → S ≤ max_slots → Spread S (nodes_from w n 0) → Fed ar (nodes_from w n 0)
      → Laid S ar (nodes_from w (n - i) i) head b → Ready ar (node_at w (i - 1)) head b
  laid_ready S ar head b k h d a = record { reach = go (fed_from ar d) }
    where
      within : Each (λ s. (1 ≤ s) × (s ≤ S)) (slots (build ar (nodes_from w (n - i) i)))
      within = rw (slots_build ar (nodes_from w (n - i) i)) (each_tail (spread_from S h).within)

      go : Fed ar (node_at w (i - 1) ∷ nodes_from w (n - i) i) → 0 < (node_at w (i - 1)).production → (k : ℕ) → 0 < k → k ≡ ar (node_at w (i - 1)).production → Reach b (k - 1) head
      go (Fed.cons c _) z j y q =
          let u = c z in
          rw a.first (linked_reach (j - 1) S b (build ar (nodes_from w (n - i) i)) k a.long (omega arith) a.linked within)

  pub laid_turn : (S : ℕ) (ar : ℕ → ℕ) (head : ℕ) (b b' : List ℕ) → S ≤ max_slots → Spread S (nodes_from w n 0) → Fed ar (nodes_from w n 0)
      → Lays ar (node_at w (i - 1)) head b b' → Laid S ar (nodes_from w (n - i) i) head b → Laid S ar (nodes_from w (n - (i - 1)) (i - 1)) (node_at w (i - 1)).slot b'
  laid_turn S ar head b b' k h d u a = rw nodes_before (u.lays S (nodes_from w (n - i) i) k (spread_from S h) (fed_from ar d) a)

-- ---- the tokens

-- `tokens` of the nodes es are leaves
pub record Counted (ar : ℕ → ℕ) (es : List Node) (tokens : ℕ) : Type 0 where
  pub count : tokens ≡ length (yield (build ar es))

pub counted_none : (ar : ℕ → ℕ) (w : List ℕ) (n : ℕ) → Counted ar (nodes_from w (n - n) n) 0
counted_none ar w n = let q : n - n ≡ 0 = omega arith in rw q (record { count = refl })

pub counted_turn : (ar : ℕ → ℕ) (w : List ℕ) (n i x tokens : ℕ) → 0 < i → i ≤ n → x ≡ leaf_of (node_at w (i - 1)).production
    → Counted ar (nodes_from w (n - i) i) tokens → Counted ar (nodes_from w (n - (i - 1)) (i - 1)) (tokens + x)
counted_turn ar w n i x tokens l m e h =
    rw (nodes_before w n i l m) (record { count = go (node_at w (i - 1)).production e })
  where
    go : (p : ℕ) → x ≡ leaf_of p → tokens + x ≡ length (yield (above ar (node_of (node_at w (i - 1)).slot (node_at w (i - 1)).symbol p (node_at w (i - 1)).tag) (build ar (nodes_from w (n - i) i))))
    go zero e = omega (arith, h.count)
    go (suc p) e =
        omega (arith, h.count, tokens_inner ar (node_at w (i - 1)).slot (node_at w (i - 1)).symbol (node_at w (i - 1)).tag (build ar (nodes_from w (n - i) i)) (suc p) (omega arith))

-- ---- the whole area

pub laid_all : (S : ℕ) (ar : ℕ → ℕ) (w : List ℕ) (n i head tokens : ℕ) (b b' : List ℕ) → i ≡ 0 → Spread S (nodes_from w n 0) → Counted ar (nodes_from w (n - i) i) tokens
    → Laid S ar (nodes_from w (n - i) i) head b → Slotted b 0 (header_bytes head n tokens) b' → Area S (build ar (nodes_from w n 0)) b'
laid_all S ar w n i head tokens b b' z h t' a' u =
    let q : n - 0 ≡ n = omega arith in
    let a : Laid S ar (nodes_from w n 0) head b = rw (z, q) at a' in
    let t : Counted ar (nodes_from w n 0) tokens = rw (z, q) at t' in
    let s = size_build ar (nodes_from w n 0) ∙ length_nodes w n 0 in
    let v = slots_build ar (nodes_from w n 0) in
    let p : Each (λ s. (1 ≤ s) × (s ≤ S)) (slots (build ar (nodes_from w n 0))) = rw v h.within in
    record {
      long = u.long ∙ a.long;
      header = u.here ∙ rw (← a.first, s, ← t.count);
      within = p;
      once = rw v h.once;
      linked = linked_kept (λ x m. u.others x (λ y. let k = each_mem (slots (build ar (nodes_from w n 0))) p m in omega arith)) a.linked;
      free = λ x l m k. u.others x (λ y. omega arith) ∙ a.free x l m (λ y. k (rw v y));
    }

-- A new node that starts before the place keeps the slot of that number, and a kept node that the edit doesn't touch carries its subtree along.
use Rattle.std.specs.Prelude.{ℕ, zero, suc, ◌+◌, ◌≤◌, ◌<◌, ◌≡◌, refl, ◌⊎◌, List, ◌++◌, length, take, drop}
use Rattle.std.proofs.Common.{sym, ap, ◌∙◌, subst, inl, inr, length-append, length-drop, take-append-drop, take_at, drop-drop, length-take-le, arith}
use Rattle.grammar.specs.Grammar.{Grammar}
use Rattle.grammar.specs.Forest.{Token, Forest, size, yield}
use Rattle.plain.specs.Alike.{same_size}
use Rattle.edits.specs.Keeping.{Edit, Kept, edited, own, below, Node, Keeps}
use Rattle.edits.specs.Places.{tokens, tree_size, at_number, at_token, at_below, Numbered, at_node}
use Rattle.edits.specs.One.{Back, keeps_back, keeps_old, keeps_node, void_below, keeps_one}
use Rattle.edits.specs.Edited.{Trees, same_after}
use Rattle.edits.specs.Before.{before_keeps}
use Rattle.edits.specs.After.{below_tokens, first, tree_size_lem, Carried, keeps_start, void_carries, after_carries}

-- a forest's first tree alone
first_size : (f : Forest) → size (first f) ≡ tree_size f
first_size Forest.nil = refl
first_size (Forest.leaf s x g r) = refl
first_size (Forest.node s M p k r) = omega arith

-- the nodes of a node's subtree start no later than its tokens end
subtree_token : {F : Forest} {a q m t : ℕ} {f : Forest} → Node F a q m t f → (c : ℕ) → c < tree_size f → (b : ℕ) → b ≡ a + c → (o : Numbered 1 0 0 0 F b) × (o.token ≤ t + own f)
subtree_token {a = a} {q = q} {m = m} {t = t} {f = f} h zero l b e =
    let z : a ≡ b = omega arith in
    (record { parent = q; child = m; token = t; forest = f; node = rw z at h }, omega arith)
subtree_token {a = a} {t = t} {f = f} h (suc c) l b e =
    let o : Numbered (suc a) a 0 t (below f) b = at_node (below f) b (omega arith) (omega (arith, tree_size_lem f)) in
    (record { parent = o.parent; child = o.child; token = o.token; forest = o.forest; node = at_below h o.node }, omega (arith, (at_token o.node).1, below_tokens f))

module _ {G : Grammar} {e : Edit} {old new : Forest} (h : Trees G e old new) where
  -- the edit that takes it back
  abbrev undo : Edit
  undo = record { place = e.place; removed = length e.inserted; inserted = take e.removed (drop e.place (yield old)) }

  undo_long : length undo.inserted ≡ e.removed
  undo_long = length-take-le e.removed (drop e.place (yield old)) (omega (arith, length-drop e.place (yield old), h.room))

  undo_trees : Trees G undo new old
  undo_trees = record { prepared = h.prepared; first = h.second; second = h.first; room = room; yields = yields }
    where
      front : length (take e.place (yield old)) ≡ e.place
      front = length-take-le e.place (yield old) (omega (arith, h.room))

      room : e.place + length e.inserted ≤ tokens new
      room =
          omega (
            arith,
            front,
            ap (λ (u : List Token). length u) h.yields,
            length-append (take e.place (yield old)) (e.inserted ++ drop (e.place + e.removed) (yield old)),
            length-append e.inserted (drop (e.place + e.removed) (yield old)),
          )

      behind : drop (e.place + length e.inserted) (yield new) ≡ drop (e.place + e.removed) (yield old)
      behind =
          let x : e.place + length e.inserted + 0 ≡ e.place + length e.inserted = omega arith in
          let y : e.place + e.removed + 0 ≡ e.place + e.removed = omega arith in
          rw (x, y) at (same_after h 0)

      before : take e.place (yield new) ≡ take e.place (yield old)
      before = ap (take e.place) h.yields ∙ take_at (take e.place (yield old)) (e.inserted ++ drop (e.place + e.removed) (yield old)) e.place front

      yields : yield old ≡ edited undo (yield new)
      yields =
          rw (before, behind, ← drop-drop e.removed e.place (yield old), take-append-drop e.removed (drop e.place (yield old)), take-append-drop e.place (yield old))

  -- a new node that starts before the place
  pub keeps_front : {a q m t : ℕ} {f : Forest} → Node new a q m t f → t < e.place → Keeps e old new a a
  keeps_front d l = keeps_back back (before_keeps undo_trees d l)
    where
      back : Back undo e
      back = record { place = refl; removed = sym undo_long; inserted = refl }

  -- node c of a subtree by its node, where that is carried along
  along : (c : ℕ) {a' a : ℕ} {f' f : Forest} → Carried e old new a' f' a f → c < tree_size f' → Keeps e old new (a' + c) (a + c)
  along c {f' = f'} {f = f} s l = s.each c (omega (arith, same_size s.same, first_size f, first_size f'))

  behind_run : {t' t : ℕ} → Kept e t' t → e.place + length e.inserted ≤ t' → e.place + e.removed ≤ t
  behind_run (Kept.before x y) l = absurd (omega arith)
  behind_run (Kept.after d x y) l = omega arith

  module _ {a' a q m t : ℕ} {f : Forest} (k : Keeps e old new a' a) (d : Node new a' q m t f) (c : ℕ) (o : c < tree_size f) where
    -- a kept new node without tokens
    pub void_along : own f ≡ 0 → Keeps e old new (a' + c) (a + c)
    void_along l = let u = void_below d l k in along c (void_carries h k d u.node l u.none) o

    -- one that starts behind the inserted tokens
    pub after_along : e.place + length e.inserted ≤ t → Keeps e old new (a' + c) (a + c)
    after_along l = go (keeps_start k d u.node)
      where
        u : Numbered 1 0 0 0 old a
        u = keeps_node k (keeps_old k (at_number d).0)

        go : Kept e t u.token ⊎ ((own f ≡ 0) × (own u.forest ≡ 0)) → Keeps e old new (a' + c) (a + c)
        go (inl x) = along c (after_carries h k d u.node (behind_run x l)) o
        go (inr x) = void_along x.0

    -- one before the place, as is the token behind it
    pub before_along : t + own f < e.place → Keeps e old new (a' + c) (a + c)
    before_along l =
        let n = subtree_token d c o (a' + c) refl in
        let x : Keeps e old new (a' + c) (a' + c) = keeps_front n.0.node (omega (arith, n.1)) in
        let z : a' ≡ a = keeps_one h.prepared h.first (keeps_front d (omega arith)) k in
        let v : a' + c ≡ a + c = omega arith in
        subst (λ (u : ℕ). Keeps e old new (a' + c) u) v x

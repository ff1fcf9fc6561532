-- The children of a node by their indices, and by their numbers in the tree.
use Rattle.std.specs.Prelude.{ℕ, zero, suc, ◌+◌, ◌-◌, ◌≤◌, ◌<◌, ◌≡◌, refl, ◌⊎◌, List, get_or}
use Rattle.std.proofs.Common.{ap, ◌∙◌, inl, inr, arith}
use Rattle.grammar.specs.Forest.{Forest, size}
use Rattle.trees.specs.Nodes.{trees, back}
use Rattle.edits.specs.Keeping.{own, below, beside, Node}
use Rattle.edits.specs.Places.{at_some, at_one, at_child, Side, Parent, at_up}
use Rattle.matching.specs.Measure.{Measured, some_trees, no_trees, Passing, pass_start, pass_here, pass_width, pass_next}
use Rattle.matching.specs.Handing.{kid}

back_next : (x : ℕ) (f : Forest) → back (suc x) f ≡ beside (back x f)
back_next zero Forest.nil = refl
back_next zero (Forest.leaf s a g r) = refl
back_next zero (Forest.node s M p k r) = refl
back_next (suc x) Forest.nil = refl
back_next (suc x) (Forest.leaf s a g r) = back_next x r
back_next (suc x) (Forest.node s M p k r) = back_next x r

pub back_some : (x : ℕ) (f : Forest) → 1 ≤ size (back x f) → x < trees f
back_some zero Forest.nil l = absurd (omega arith)
back_some zero (Forest.leaf s a g r) l = omega arith
back_some zero (Forest.node s M p k r) l = omega arith
back_some (suc x) Forest.nil l = absurd (omega arith)
back_some (suc x) (Forest.leaf s a g r) l = omega (arith, back_some x r l)
back_some (suc x) (Forest.node s M p k r) l = omega (arith, back_some x r l)

-- the node with number i + 1, at index z
module _ {F : Forest} {base i q n t : ℕ} {f : Forest} {ends widths : List ℕ} (h : Node F (suc i) q n t f) (g : Measured F base 0 ends widths) (z : ℕ) (at : z ≡ base + i) where
  further : Measured F base (i + 1) ends widths
  further = record { end = λ y x l e. g.end y x (omega arith) e; width = λ y x l e. g.width y x (omega arith) e }

  pub kids : (x : ℕ) → x ≤ trees (below f) → Passing F base i f x (kid ends z x) (back x (below f))
  kids zero l = rw at (pass_start h)
  kids (suc x) l =
      let p = kids x (omega arith) in
      let o : 1 ≤ trees (back x (below f)) = omega (arith, p.count) in
      let e : x + 1 ≡ suc x = omega arith in
      rw (back_next x (below f), ← e) (pass_next p o further)

  module _ (x : ℕ) (l : x < trees (below f)) where
    pub passing : Passing F base i f x (kid ends z x) (back x (below f))
    passing = kids x (omega arith)

    there : 1 ≤ trees (back x (below f))
    there = omega (arith, passing.count)

    -- child x
    pub kid_node : Node F (suc (kid ends z x) - base) (suc i) x passing.next (back x (below f))
    kid_node = pass_here passing there

    pub kid_width : get_or widths (kid ends z x) 0 ≡ own (back x (below f))
    kid_width = pass_width passing there further

    pub kid_reach : kid ends z x < get_or ends z 0
    kid_reach = omega (arith, passing.ending, some_trees (back x (below f)) there, g.end z h (omega arith) (omega (arith, at)))

    -- a child at that index is that child
    pub kid_is : {a m u y : ℕ} {k : Forest} → Node F a (suc i) m u k → suc y ≡ base + a → kid ends z x ≡ y → (m ≡ x) × (own k ≡ own (back x (below f)))
    kid_is {a} {m} {u} {y} {k} c e v =
        let w : suc (kid ends z x) - base ≡ a = omega (arith, e, v) in
        let d : Node F a (suc i) x passing.next (back x (below f)) = rw w at kid_node in
        let s = at_one c d in
        (s.child, ap own s.forest)

    -- and any node there is a child
    pub kid_parent : {a p m u y : ℕ} {k : Forest} → Node F a p m u k → suc y ≡ base + a → kid ends z x ≡ y → p ≡ suc i
    kid_parent {a} {p} {m} {u} {y} {k} c e v =
        let w : suc (kid ends z x) - base ≡ a = omega (arith, e, v) in
        let d : Node F a (suc i) x passing.next (back x (below f)) = rw w at kid_node in
        (at_one c d).parent

    -- child x stands at that index
    pub kid_at : {a u y : ℕ} {k : Forest} → Node F a (suc i) x u k → suc y ≡ base + a → kid ends z x ≡ y
    kid_at c e = let w = at_child (omega arith) c kid_node in omega (arith, e, w, passing.low)

  -- as many children as there are
  pub kid_within : (x : ℕ) → x ≤ trees (below f) → kid ends z x < get_or ends z 0 → x < trees (below f)
  kid_within x l r = go (trees (back x (below f))) refl
    where
      p : Passing F base i f x (kid ends z x) (back x (below f))
      p = kids x l

      go : (k : ℕ) → trees (back x (below f)) ≡ k → x < trees (below f)
      go zero e = absurd (omega (arith, p.ending, (no_trees (back x (below f)) e).0, g.end z h (omega arith) (omega (arith, at)), r))
      go (suc k) e = omega (arith, p.count, e)

  -- and every child that the indices reach is one
  pub kid_few : (x : ℕ) → ((v : ℕ) → v ≤ x → kid ends z v < get_or ends z 0) → x < trees (below f)
  kid_few zero o = kid_within 0 (omega arith) (o 0 (omega arith))
  kid_few (suc x) o = kid_within (suc x) (kid_few x (λ v l. o v (omega arith))) (o (suc x) (omega arith))

  -- a child's number is below the number of children
  pub child_few : {a m u : ℕ} {k : Forest} → Node F a (suc i) m u k → m < trees (below f)
  child_few {m = m} {k = k} c = go (at_up c)
    where
      go : {u : ℕ} → Side 0 0 F (suc i) m k ⊎ Parent 1 0 0 0 F (suc i) m u k → m < trees (below f)
      go (inl s) = absurd (omega (arith, s.parent))
      go (inr s) =
          let e : s.forest ≡ f = (at_one s.node h).forest in
          let d : k ≡ back m (below f) = s.is ∙ ap (λ (v : Forest). back m (below v)) e in
          back_some m (below f) (rw d at (at_some c))

use Rattle.std.proofs.Common.{ℕ, ◌≡◌, ◌∙◌, ap, arith, rules}
use Rattle.trees.specs.Coded.{arity_in}
use Rattle.trees.specs.Laying.{lay_leaf, lay_empty, lay_inner, arity_at, ready_reach}
use Rattle.trees.proofs.lay_node.Goals as goal
use Rattle.trees.proofs.lay_node.Goals.{then-node-eq0, else-node-eq0, then-k-eq0, else-k-eq0}

pub adopt-requires : goal.adopt-requires
adopt-requires c =
    elim c.if-node-eq0.branch [
      | then-node-eq0 w ↦ absurd (c.if-k-eq0.false (ap (λ (p : ℕ × ℕ). p.0) w.k-is))
      | else-node-eq0 w ↦
          let k : c.if-node-eq0.k.0 ≡ arity_in c.args.rows.now c.args.node.production = ap (λ (p : ℕ × ℕ). p.0) w.k-is ∙ arity_at _ _ _ (rw w.from.ensures at w.length_at.ensures.0) in
          (omega (arith, c.if-k-eq0.false), ready_reach _ _ _ _ _ w.if-node-eq0.false k c.if-k-eq0.false c.requires.1)
    ]

pub returns : goal.returns
returns c =
    elim c.if-node-eq0.branch [
      | then-node-eq0 w ↦ elim c.if-k-eq0.branch [
        | then-k-eq0 v ↦
            -- the tag is left to arithmetic, so that what is refused is a wrong value and not another way to say the same
            let tag : c.if-node-eq0.k.1 ≡ c.args.node.tag = omega (arith, ap (λ (p : ℕ × ℕ). p.1) w.k-is) in
            lay_leaf _ _ _ _ _ w.if-node-eq0.true (search rules) (rw (v.area-is, v.first-is, tag) at c.put_slot.ensures)
        | else-k-eq0 v ↦ absurd (v.if-k-eq0.false (ap (λ (p : ℕ × ℕ). p.0) w.k-is))
      ]
      | else-node-eq0 w ↦
          let k : c.if-node-eq0.k.0 ≡ arity_in c.args.rows.now c.args.node.production = ap (λ (p : ℕ × ℕ). p.0) w.k-is ∙ arity_at _ _ _ (rw w.from.ensures at w.length_at.ensures.0) in
          elim c.if-k-eq0.branch [
            | then-k-eq0 v ↦ lay_empty _ _ _ _ _ _ w.if-node-eq0.false k v.if-k-eq0.true (rw (v.area-is, v.first-is, w.k-is) at c.put_slot.ensures)
            | else-k-eq0 v ↦ lay_inner _ _ _ _ _ _ _ _ w.if-node-eq0.false k v.if-k-eq0.false (search rules) v.adopt.ensures (rw (v.area-is, v.first-is, w.k-is) at c.put_slot.ensures)
          ]
    ]

use Rattle.std.proofs.Common.{ℕ, zero, suc, ◌-◌, ◌≡◌, refl, ◌∙◌, ap, eqb, rules}
use Rattle.std.proofs.Math.Dec.{eqb-suc-zero}
use mir.Val.{bool_byte}
use Rattle.base.specs.Blocks.{zeros}
use Rattle.trees.specs.Nodes.{Node, leaf_of}
use Rattle.trees.specs.Coded.{node_at}
use Rattle.trees.specs.Laying.{laid_none, laid_ready, laid_turn, laid_all, counted_none, counted_turn, spread_room}
use Rattle.trees.proofs.lay_out.Goals as goal

leaf_is : (p : ℕ) → bool_byte (eqb p 0) ≡ leaf_of p
leaf_is zero = refl
leaf_is (suc p) = ap bool_byte (eqb-suc-zero p)

pub loop-i-init : goal.loop-i-init
unfolding zeros
loop-i-init c = (search rules, counted_none _ c.args.nodes.now c.args.n, laid_none _ _ c.args.nodes.now c.args.n _ _ (search rules) (c.fill.ensures.after (λ y e. e)))

pub lay_node-requires : goal.lay_node-requires
lay_node-requires c =
    rw c.node_in-node.ensures (
      spread_room c.args.nodes.now c.args.n c.loop-i.i (search rules) c.loop-i.auto.i _ _ c.loop-i.invariant.2.long c.requires.4,
      laid_ready _ _ _ (search rules) c.loop-i.auto.i _ _ _ _ (search rules) c.requires.4 c.requires.5 c.loop-i.invariant.2,
    )

pub loop-i-preserved : goal.loop-i-preserved
loop-i-preserved c =
    let t : c.from-tokens.result ≡ leaf_of (node_at c.args.nodes.now (c.loop-i.i - 1)).production =
    c.from-tokens.ensures ∙ leaf_is c.node_in-node.result.production ∙ ap (λ (e : Node). leaf_of e.production) c.node_in-node.ensures in
    rw c.node_in-node.ensures (
      search rules,
      counted_turn _ _ _ _ _ _ (search rules) c.loop-i.auto.i t c.loop-i.invariant.1,
      laid_turn _ _ _ (search rules) c.loop-i.auto.i _ _ _ _ _ (search rules) c.requires.4 c.requires.5 (rw c.node_in-node.ensures at c.lay_node.ensures) c.loop-i.invariant.2,
    )

pub returns : goal.returns
returns c = laid_all _ _ c.args.nodes.now c.args.n _ _ _ _ _ (search rules) c.requires.4 c.loop-i.invariant.1 c.loop-i.invariant.2 c.put_header.ensures

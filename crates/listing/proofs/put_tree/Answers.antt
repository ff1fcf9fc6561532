use Rattle.std.proofs.Common.{ap, length, rules, arith}
use Rattle.listing.specs.Rows.{before_first, before_next, before_end}
use Rattle.listing.proofs.put_tree.Goals as goal

pub loop-s-init : goal.loop-s-init
loop-s-init c = record {
  bytes = before_first c.args.tree.now _ _ _ c.get16.ensures.0 (search rules);
  room = omega (arith, ap length c.requires.empty);
}

pub loop-s-preserved : goal.loop-s-preserved
loop-s-preserved c = record {
  bytes = before_next c.args.tree.now _ _ _ _ (search rules) c.loop-s.invariant.bytes c.put_node.ensures.bytes;
  room = search rules;
}

pub returns : goal.returns
returns c = before_end c.args.tree.now _ _ _ (search rules) c.loop-s.invariant.bytes

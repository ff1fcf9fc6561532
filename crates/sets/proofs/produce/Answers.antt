use Rattle.std.proofs.Common.{refl}
use borrow.Author.Rules.{rules}
use Rattle.sets.specs.Sweeps.{grew_join, at_turn, at_start}
use Rattle.sets.proofs.produce.Goals as goal

pub loop-j-preserved : goal.loop-j-preserved
loop-j-preserved c =
    let i = c.loop-j.invariant in
    record {
      left = i.left;
      small = i.small;
      within = search rules;
      at =
          at_turn _ _ _ _ _ _ _ _ _ _ _ _ _ _ _ i.within (search rules) i.at c.symbol_at-x.ensures.0 refl refl c.step-grew.ensures.0 c.leads-tail.ensures c.both-made.ensures;
      grew = grew_join i.grew c.step-grew.ensures.1;
    }

pub returns : goal.returns
returns c =
    let i = c.loop-j.invariant in
    at_start _ _ _ _ _ _ _ _ _ _ _ _ _ c.loop-j-test.false i.left i.at i.grew c.raise-a.ensures c.raise-b.ensures

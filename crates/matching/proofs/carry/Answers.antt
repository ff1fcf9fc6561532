use Rattle.std.proofs.Common.{◌≡◌, ◌+◌, ◌-◌}
use Rattle.notes.specs.Views.{length_field}
use Rattle.matching.specs.Carrying.{row_next}
use Rattle.matching.specs.Noted.{matches_on}
use borrow.Author.Rules.{rules}
use Rattle.matching.proofs.carry.Goals as goal

pub loop-y-preserved : goal.loop-y-preserved
loop-y-preserved c =
    let u = c.loop-y.invariant in
    let k : c.args.j + (c.loop-y.y - c.args.i) + 1 ≡ c.args.j + 1 + (c.loop-y.y - c.args.i) = search rules in
    record {
      row = row_next u.row (search rules) (rw length_field (search rules)) (rw k at c.set_match.ensures.matches);
      viewed = matches_on u.viewed c.set_match.ensures;
    }

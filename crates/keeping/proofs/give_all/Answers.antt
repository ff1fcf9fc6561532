use Rattle.std.proofs.Common.{◌<◌, ◌≡◌}
use Rattle.keeping.specs.Filling.{giving_holds, giving_more, giving_all}
use Rattle.keeping.specs.Seen.{held_seen, got_new_then, seen_given}
use borrow.Author.Rules.{rules}
use Rattle.keeping.proofs.give_all.Goals as goal

pub loop-i-preserved : goal.loop-i-preserved
loop-i-preserved c =
    let u = c.loop-i.invariant in
    let l : c.loop-i.i < c.args.k = search rules in
    let e = giving_holds _ u.giving (c.requires.1.each c.loop-i.i l) (held_seen u.seen _ _ c.held-h.ensures) in
    record {
      low = search rules;
      seen = seen_given u.seen c.give_one-s.ensures.1;
      giving = giving_more c.requires.3 c.requires.2 l e (got_new_then u.seen _ c.give_one-s.ensures.0) u.giving;
    }

pub returns : goal.returns
returns c = let q : c.loop-i.i ≡ c.args.k = search rules in (giving_all (rw q at c.loop-i.invariant.giving), c.loop-i.invariant.seen.same)

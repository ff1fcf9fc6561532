use Rattle.std.proofs.Common.{◌≡◌, rules, arith}
use Rattle.base.specs.Bytes.{number, number_small, number_room}
use Rattle.base.proofs.number.Goals as goal

pub overflow_mul-n : goal.overflow_mul-n
overflow_mul-n g c = omega (arith, number_room g.row.N c.loop-i.i _ c.args.b.now (search rules) (search rules) (λ i. search rules) c.loop-i.invariant)

pub overflow_add-n : goal.overflow_add-n
overflow_add-n g c = omega (arith, number_room g.row.N c.loop-i.i _ c.args.b.now (search rules) (search rules) (λ i. search rules) c.loop-i.invariant)

pub returns : goal.returns
returns g c = let e : c.loop-i.n ≡ number g.row.N c.args.b.now 0 = search rules in (e, omega (arith, number_small g.row.N c.args.b.now 0 (λ i. search rules)))

use Rattle.std.proofs.Common.{◌≡◌, arith, rules}
use borrow.Author.Tests.{tests}
use Rattle.tables.specs.Checking.{zeros_by_rows}
use Rattle.tables.proofs.zero_rows.Goals as goal

pub returns : goal.returns
returns c =
    let h = c.all.ensures.runs in
    let g = c.chunks_exact.ensures in
    let size : h.0.from.size ≡ 1024 = rw h.1 g.size in
    zeros_by_rows h.0 c.args.rows c.requires (rw (size, h.1, g.rest) at (g.runs h.0 h.0.seen (omega (arith, size))))
    (search rules) (λ x told. search (rules, tests)) (λ x told. search (rules, tests)) _ h.2

use Rattle.std.proofs.Common.{◌≡◌, ◌+◌, ◌-◌, ◌*◌, ◌%◌, ℕ, get_or, ap, ◌∙◌, arith}
use Rattle.grammar.specs.Limits.{columns}
use Rattle.grammar.specs.Rows.{symbol_space}
use Rattle.tables.specs.Cells.{next}
use Rattle.tables.proofs.Stems.next.Goals as goal

pub returns-clause-is : goal.returns-clause-is
unfolding next
returns-clause-is c =
    let s = c.args.self.now in
    let e : c.saturating_sub-row.result ≡ c.args.x - s.shape.t - 1 = omega arith in
    ap (λ (v : ℕ). v % symbol_space) (c.byte_at.ensures.0 ∙ ap (λ (y : ℕ). get_or s.steps.now (y * columns + c.args.a) 0) e)

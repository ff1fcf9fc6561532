use Rattle.grammar.specs.Reading.{starts_good, starts_symbols, part_body}
use borrow.Author.Rules.{rules}
use Rattle.grammar.proofs.production_size.Goals as goal

pub returns-then-not-all_symbols : goal.returns-then-not-all_symbols
returns-then-not-all_symbols c =
    (starts_symbols _ _ _ _ _ c.from-length.ensures (rw (part_body c.args.t c.args.n c.args.rest.now _ _ c.in_ok-body.ensures.lookup.0.2) at c.all_symbols.ensures) c.if-not-all_symbols.true, tt)

pub returns : goal.returns
returns c = (
  starts_good _ _ _ _ _ _ (search rules) (search rules) (search rules) c.from-left.ensures (search rules) (search rules) c.from-length.ensures (search rules)
      c.in_ok-body.ensures.lookup.0.1 (rw (part_body c.args.t c.args.n c.args.rest.now _ _ c.in_ok-body.ensures.lookup.0.2) at c.all_symbols.ensures) c.if-not-all_symbols.false,
  search rules,
)

use Rattle.std.proofs.Common.{◌≤◌, ◌<◌, ◌⊎◌}
use Rattle.std.proofs.lemmas.Iterator.{cases_from_all, YieldsList-from_slice}
use borrow.Author.Rules.{rules}
use borrow.Author.Tests.{tests}
use Rattle.grammar.specs.Reading.{tells_symbols}
use Rattle.grammar.proofs.all_symbols.Goals as goal

pub returns : goal.returns
returns c =
    tells_symbols _ _ _
    (cases_from_all _ _ _ (λ x. (1 ≤ x) × (x ≤ c.args.last)) (λ x. (x < 1) ⊎ (c.args.last < x)) c.all.ensures.ran (YieldsList-from_slice c.args.b.now cc)
    (λ x q k. search (rules, tests)) (λ x q k. search (rules, tests)))

use Rattle.std.proofs.Common.{refl, ◌∙◌, arith, rules}
use Rattle.base.specs.Blocks.{copied_whole}
use Rattle.sentences.specs.Forming.{tokens_put}
use Rattle.sentences.proofs.put_tokens.Goals as goal

pub returns : goal.returns
returns c =
    (λ m e. tokens_put _ _ c.args.tokens.now c.args.at c.args.end _ _ m c.min-size.ensures (c.copy.ensures ∙ copied_whole _ _ _ (search rules) refl (search rules)) (omega arith) (λ i. omega (arith, c.type_inv.tokens i)) (search rules) (search rules) e, omega arith)

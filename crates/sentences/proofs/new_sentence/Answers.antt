use Rattle.std.proofs.Common.{ℕ, ◌≡◌, ◌∙◌, ap, take, drop, rules, length-drop, arith}
use Rattle.sentences.specs.Forming.{formed}
use Rattle.sentences.specs.Behind.{fronted_left, formed_left}
use Rattle.sentences.proofs.new_sentence.Goals as goal

-- where the bytes are cut is left to arithmetic, so that what is refused is a wrong place and not another way to say the same
pub returns : goal.returns
returns c =
    let s = c.split_at_mut-nodes in
    let front : s.result.0.now ≡ take c.args.text c.args.work.now =
    s.ensures.front ∙ ap (λ (k : ℕ). take k c.args.work.now) (omega arith) in
    let back : s.result.1.now ≡ drop c.args.text c.args.work.now =
    s.ensures.back ∙ ap (λ (k : ℕ). drop k c.args.work.now) (omega arith) in (
      λ m e. formed_left _ _ _ front (search rules) _ (search rules)
          (ap (λ (k : ℕ). take k s.result.0.now) (omega arith)) back
          (formed _ c.args.tokens.now _ c.args.place _ m _ _ _ _ _ _ c.min.ensures (omega arith) (search rules)
          c.give-before.ensures.0 _ _ (search rules) (c.put_tokens-next.ensures.0 m e) _ c.skip-node.ensures.0
          _ _ _ c.give-after.ensures.0),
      fronted_left _ _ _ front (search rules) (omega (arith, length-drop c.args.text c.args.work.now)),
      search rules,
    )

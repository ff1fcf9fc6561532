use Rattle.std.proofs.Common.{ℕ, ◌≡◌, ◌*◌, refl, ap, take, ◌∙◌, rules, arith}
use Rattle.base.specs.Blocks.{copied_front}
use Rattle.plain.specs.Tokens.{token_size}
use Rattle.sentences.specs.Behind.{gave_left, part_left}
use Rattle.sentences.proofs.give_out.Goals as goal

-- where the bytes are cut is left to arithmetic, so that what is refused is a wrong place and not another way to say the same
pub returns : goal.returns
returns c =
    let s = c.split_at_mut-nodes in
    let size : ℕ = token_size * c.give-reached.result.token in
    let front : s.result.0.now ≡ take c.args.text c.args.work.now =
    s.ensures.front ∙ ap (λ (k : ℕ). take k c.args.work.now) (omega arith) in
    rw (c.copy.ensures ∙ copied_front _ _ _ (search rules) refl size (search rules))
    (gave_left _ c.args.text _ front (search rules) _ (search rules)
    (ap (λ (k : ℕ). take k s.result.0.now) (omega arith)) c.give-reached.ensures.0 refl (search rules)
    (search (rules, part_left _ c.args.text c.give-reached.new.text front)))

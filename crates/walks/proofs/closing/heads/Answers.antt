use Rattle.std.proofs.Common.{sym, ◌∙◌}
use Rattle.std.proofs.lemmas.Bool.{eqb-true, eqb-false}
use Rattle.base.specs.Choose.{never}
use Rattle.walks.specs.Closing.{heads_mark, heads_mark', heads_used, heads_tokens, heads_told}
use borrow.Author.Rules.{rules}
use Rattle.walks.proofs.closing.heads.Goals as goal
use Rattle.walks.proofs.closing.heads.Goals.{then-two-used, else-two-used, then-area-eq-TREE_MARK_END, else-area-eq-TREE_MARK_END, then-area-eq-TREE_MARK, else-area-eq-TREE_MARK}

pub returns-then-two-tokens : goal.returns-then-two-tokens
returns-then-two-tokens c =
    elim c.if-two-used.branch [
      | then-two-used w ↦
          elim c.if-area-eq-TREE_MARK_END.branch [
            | then-area-eq-TREE_MARK_END w' ↦
                elim c.if-area-eq-TREE_MARK.branch [
                  | then-area-eq-TREE_MARK w'' ↦
                      heads_told _ _ _ _ _ _ (record { small = λ i. let h = c.type_inv.area i in search rules }) (search rules) (search rules) (search rules) w'.two.ensures.0 (search rules) w.two-then-two-used.ensures.0 (search rules) c.all_zero.ensures
                  | else-area-eq-TREE_MARK w'' ↦ absurd (w''.if-area-eq-TREE_MARK.false (eqb-true _ _ (sym w''.value-is ∙ w'.if-area-eq-TREE_MARK_END.true)))
                ]
            | else-area-eq-TREE_MARK_END w' ↦ never (let e = sym w'.if-area-eq-TREE_MARK_END.false ∙ sym w'.value-is ∙ w.if-two-used.true in cc)
          ]
      | else-two-used w ↦ never (let e = sym w.if-two-used.false ∙ sym w.value-is ∙ c.if-two-tokens.true in cc)
    ]

pub returns-else-two-tokens : goal.returns-else-two-tokens
returns-else-two-tokens c = rw c.if-two-tokens.false (elim c.if-two-used.branch [
  | then-two-used w ↦ heads_tokens _ _ _ _ w.two-then-two-used.ensures.0 c.requires.2 (eqb-false _ _ (sym w.value-is ∙ c.if-two-tokens.false))
  | else-two-used w ↦
      elim c.if-area-eq-TREE_MARK_END.branch [
        | then-area-eq-TREE_MARK_END w' ↦ heads_used _ _ _ _ w'.two.ensures.0 c.requires.1 (eqb-false _ _ (sym w'.value-is ∙ w.if-two-used.false))
        | else-area-eq-TREE_MARK_END w' ↦
            elim c.if-area-eq-TREE_MARK.branch [ then-area-eq-TREE_MARK w'' ↦ heads_mark' _ _ _ (eqb-false _ _ (sym w''.value-is ∙ w'.if-area-eq-TREE_MARK_END.false)) | else-area-eq-TREE_MARK w'' ↦ heads_mark _ _ _ w''.if-area-eq-TREE_MARK.false ]
      ]
])

use Rattle.std.proofs.Common.{rules, refl, ap, sym, ◌≡◌, ◌∙◌, Some}
use Rattle.walks.specs.Judging.{Visited, kin_untagged, taken_leaf, taken_body, visited_marked, visited_unlike, visited_unfit, visited_hung}
use Rattle.walks.proofs.visit.Goals as goal
use Rattle.walks.proofs.visit.Goals.{then-not-looks-via-else-not-looks+then-w-mark-ne0, then-not-looks-via-then-not-looks}

pub returns-then-area-s : goal.returns-then-area-s
returns-then-area-s c = Visited.over (search rules)

pub returns-then-not-looks : goal.returns-then-not-looks
returns-then-not-looks c =
    elim c.then-not-looks.branch [
      | then-not-looks-via-else-not-looks+then-w-mark-ne0 w ↦ visited_marked _ _ _ _ _ _ _ _ _ _ _ c.marks_at.ensures c.if-area-s.false w.if-w-mark-ne0.true
      | then-not-looks-via-then-not-looks w ↦ visited_unlike _ _ _ _ _ _ _ _ _ _ _ c.looks.ensures (search rules)
    ]

pub returns-in_err-kin : goal.returns-in_err-kin
returns-in_err-kin c = rw c.from_residual.ensures (visited_unfit _ _ _ _ _ _ _ _ _ _ _ c.marks_at.ensures c.if-area-s.false _ _ (record { small = c.args.area.known }) c.two-both.ensures.0 c.four-g.ensures.0 _ c.kin.ensures c.in_err-kin.was)

pub returns-in-Leaf : goal.returns-in-Leaf
returns-in-Leaf c =
    rw c.then_some.ensures
    (visited_hung _ _ _ _ _ _ _ _ _ _ _ c.marks_at.ensures c.if-area-s.false _ _ (record { small = c.args.area.known }) c.two-both.ensures.0 c.four-g.ensures.0 _ c.kin.ensures c.if-w-mark-ne0.false (c.looks.ensures.yes (search rules)) c.four-g.ensures.1 _ (c.in_ok-kin.was ∙ ap Some c.in-Leaf.is) _ 1
    (taken_leaf _ _ _ refl refl refl) _ c.hangs.ensures _ _ c.put_node.ensures refl)

pub returns-in-Body : goal.returns-in-Body
returns-in-Body c =
    let e = c.in_ok-kin.was ∙ ap Some c.in-Body.is in
    let z : c.four-g.result ≡ 0 = kin_untagged (rw e at c.kin.ensures) in
    rw c.then_some-in-Body.ensures
    (visited_hung _ _ _ _ _ _ _ _ _ _ _ c.marks_at.ensures c.if-area-s.false _ _ (record { small = c.args.area.known }) c.two-both.ensures.0 c.four-g.ensures.0 _ c.kin.ensures c.if-w-mark-ne0.false (c.looks.ensures.yes (search rules)) c.four-g.ensures.1 _ e _ 0
    (taken_body _ _ _ _ refl refl refl) _ c.hangs-in-Body.ensures _ _ (rw (sym z) at c.put_node-in-Body.ensures) refl)

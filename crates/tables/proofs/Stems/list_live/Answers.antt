use Rattle.std.proofs.Common.{◌≡◌, ◌+◌, sym, ◌∙◌, arith}
use Rattle.tables.specs.Live.{live_passed, live_noted, live_row}
use Rattle.tables.proofs.Stems.list_live.Goals as goal
use Rattle.tables.proofs.Stems.list_live.Goals.{then-step_at-ne0, else-step_at-ne0}

pub loop-a-preserved : goal.loop-a-preserved
loop-a-preserved c =
    elim c.if-step_at-ne0.branch [
      | then-step_at-ne0 w ↦ rw (w.live-is, w.k-is) (live_noted _ _ _ _ _ _ _ (omega arith) (omega arith) (omega arith) (λ z. w.if-step_at-ne0.true (c.step_at.ensures.is ∙ z)) c.loop-a.invariant)
      | else-step_at-ne0 w ↦ rw (w.live-is, w.k-is) (live_passed _ _ _ _ _ _ _ (sym c.step_at.ensures.is ∙ w.if-step_at-ne0.false) c.loop-a.invariant)
    ]

pub loop-q-preserved : goal.loop-q-preserved
loop-q-preserved c = let e : c.loop-a.a ≡ c.args.self.now.shape.t + 1 = omega arith in live_row _ _ _ _ _ _ (omega arith) (rw e at c.loop-a.invariant)

use Rattle.tables.specs.Writing.{meet_same, meet_end, meet_on, meet_off}
use Rattle.std.proofs.Common.{arith}
use Rattle.tables.proofs.Stems.meet.Goals as goal

pub returns-then-r-q-clause-is : goal.returns-then-r-q-clause-is
returns-then-r-q-clause-is c = rw c.args.self.now.shape.behind_terminals (meet_same _ _ _ _ _ _ c.if-r-q.true)

pub returns-then-y-first-clause-is : goal.returns-then-y-first-clause-is
returns-then-y-first-clause-is c = meet_end _ _ _ _ _ _ c.if-r-q.false _ c.step_at-y.ensures.is _ (omega arith) c.down.ensures.is

pub returns-then-byte_at-first-clause-is : goal.returns-then-byte_at-first-clause-is
returns-then-byte_at-first-clause-is c =
    rw c.args.self.now.shape.behind_terminals (meet_on _ _ _ _ _ _ c.if-r-q.false _ c.step_at-y.ensures.is _ _ (omega arith) (omega arith) c.byte_at.ensures.0 (omega arith))

pub returns-clause-is : goal.returns-clause-is
returns-clause-is c =
    meet_off _ _ _ _ _ _ c.if-r-q.false _ c.step_at-y.ensures.is _ _ (omega arith) (omega arith) c.byte_at.ensures.0 _ (λ z. omega arith) c.down-2.ensures.is

use Rattle.std.proofs.Common.{rules, refl, ap, ◌∙◌, Some, arith}
use Rattle.walks.specs.Judging.{Taken, taken_leaf, taken_body}
use Rattle.walks.specs.Walking.{walking_start, walking_leaves, walking_room, walking_next, walking_up, walking_end, walking_down, walking_push, wandered_unfit, wandered_behind}
use Rattle.walks.proofs.wander.Goals as goal
use Rattle.walks.proofs.wander.Goals.{Joined-branch-2, in-Leaf, in-Body}

-- what was found of the children of the node that was visited
taken : (c : Joined-branch-2) → Taken c.visit.result c.loop-leaves.leaves c.match-branch-2.body c.match-branch-2.leaves
taken c =
    elim c.match-branch-2.branch
    [ in-Leaf w ↦ taken_leaf _ _ _ (c.in_ok-visit.was ∙ ap Some w.in-Leaf.is) w.body-is w.leaves-is | in-Body w ↦ taken_body _ _ _ _ (c.in_ok-visit.was ∙ ap Some w.in-Body.is) w.body-is w.leaves-is ]

pub loop-leaves-init : goal.loop-leaves-init
loop-leaves-init c = (refl, walking_start _ _ _ _ _ _ _ c.two.ensures.0 c.fresh.ensures refl (search rules))

pub returns-in_err-visit : goal.returns-in_err-visit
returns-in_err-visit c = rw c.from_residual.ensures (wandered_unfit _ _ _ _ c.loop-leaves.invariant.1 c.visit.ensures _ c.in_err-visit.was)

pub overflow_add-leaves : goal.overflow_add-leaves
overflow_add-leaves c = omega (arith, walking_leaves _ _ _ _ c.loop-leaves.invariant.1, c.loop-leaves.invariant.1.room, c.args.area.few)

pub returns-then-next_in-ne0 : goal.returns-then-next_in-ne0
returns-then-next_in-ne0 c =
    let t = taken (goal.at.returns-then-next_in-ne0 c).Joined-branch-2 in
    wandered_behind _ _ _ _ c.loop-leaves.invariant.1 c.visit.ensures t _ _ c.next_in.ensures.0 c.if-next_in-ne0.true c.if-due-eq0.true

pub returns-then-top-bottom : goal.returns-then-top-bottom
returns-then-top-bottom c =
    let t = taken (goal.at.returns-then-top-bottom c).Joined-branch-2 in
    walking_end _ _ _ _ c.loop-leaves.invariant.1 c.visit.ensures t (search rules) c.args.area.few _ c.next_in.ensures.0 c.next_in.ensures.1 c.if-body-eq0.true c.if-due-eq0.true c.if-next_in-ne0.false c.if-top-bottom.true

pub loop-leaves-smaller-then-due-eq0 : goal.loop-leaves-smaller-then-due-eq0
loop-leaves-smaller-then-due-eq0 c =
    let t = taken (goal.at.loop-leaves-smaller-then-due-eq0 c).Joined-branch-2 in
    let r = walking_room _ _ _ _ c.loop-leaves.invariant.1 c.visit.ensures t in search rules

pub loop-leaves-preserved-then-due-eq0 : goal.loop-leaves-preserved-then-due-eq0
loop-leaves-preserved-then-due-eq0 c =
    let t = taken (goal.at.loop-leaves-preserved-then-due-eq0 c).Joined-branch-2 in
    (search rules, walking_up _ _ _ _ c.loop-leaves.invariant.1 c.visit.ensures t (search rules) c.args.area.few _ c.next_in.ensures.0 c.next_in.ensures.1 c.if-body-eq0.true c.if-due-eq0.true c.if-next_in-ne0.false c.if-top-bottom.false _ _ _ c.frame_at-due.ensures.0 c.frame_at-due.ensures.1 c.frame_at-due.ensures.2 c.frame_at-due.ensures.3)

pub loop-leaves-smaller-then-body-eq0 : goal.loop-leaves-smaller-then-body-eq0
loop-leaves-smaller-then-body-eq0 c =
    let t = taken (goal.at.loop-leaves-smaller-then-body-eq0 c).Joined-branch-2 in
    let r = walking_room _ _ _ _ c.loop-leaves.invariant.1 c.visit.ensures t in search rules

pub loop-leaves-preserved-then-body-eq0 : goal.loop-leaves-preserved-then-body-eq0
loop-leaves-preserved-then-body-eq0 c =
    let t = taken (goal.at.loop-leaves-preserved-then-body-eq0 c).Joined-branch-2 in
    (search rules, walking_next _ _ _ _ c.loop-leaves.invariant.1 c.visit.ensures t (search rules) c.args.area.few _ c.next_in-then-body-eq0.ensures.0 c.next_in-then-body-eq0.ensures.1 c.if-body-eq0.true c.if-due-eq0.false)

pub returns-then-next_in-ne0-2 : goal.returns-then-next_in-ne0-2
returns-then-next_in-ne0-2 c =
    let t = taken (goal.at.returns-then-next_in-ne0-2 c).Joined-branch-2 in
    wandered_behind _ _ _ _ c.loop-leaves.invariant.1 c.visit.ensures t _ _ c.next_in-then-due-eq0-2.ensures.0 c.if-next_in-ne0-2.true c.if-due-eq0-2.true

pub loop-leaves-smaller-then-due-eq0-2 : goal.loop-leaves-smaller-then-due-eq0-2
loop-leaves-smaller-then-due-eq0-2 c =
    let t = taken (goal.at.loop-leaves-smaller-then-due-eq0-2 c).Joined-branch-2 in
    let r = walking_room _ _ _ _ c.loop-leaves.invariant.1 c.visit.ensures t in search rules

pub loop-leaves-preserved-then-due-eq0-2 : goal.loop-leaves-preserved-then-due-eq0-2
loop-leaves-preserved-then-due-eq0-2 c =
    let t = taken (goal.at.loop-leaves-preserved-then-due-eq0-2 c).Joined-branch-2 in
    (search rules, walking_down _ _ _ _ c.loop-leaves.invariant.1 c.visit.ensures t (search rules) c.args.area.few _ c.next_in-then-due-eq0-2.ensures.0 c.next_in-then-due-eq0-2.ensures.1 c.if-body-eq0.false _ c.first_in.ensures.0 c.first_in.ensures.1 c.if-due-eq0-2.true c.if-next_in-ne0-2.false)

pub loop-leaves-smaller : goal.loop-leaves-smaller
loop-leaves-smaller c =
    let t = taken (goal.at.loop-leaves-smaller c).Joined-branch-2 in
    let r = walking_room _ _ _ _ c.loop-leaves.invariant.1 c.visit.ensures t in search rules

pub loop-leaves-preserved : goal.loop-leaves-preserved
loop-leaves-preserved c =
    let t = taken (goal.at.loop-leaves-preserved c).Joined-branch-2 in
    (search rules, walking_push _ _ _ _ c.loop-leaves.invariant.1 c.visit.ensures t (search rules) c.args.area.few _ c.next_in-in-loop-leaves.ensures.0 c.next_in-in-loop-leaves.ensures.1 c.if-body-eq0.false _ c.first_in-in-loop-leaves.ensures.0 c.first_in-in-loop-leaves.ensures.1 c.if-due-eq0-2.false _ c.put_frame.ensures)

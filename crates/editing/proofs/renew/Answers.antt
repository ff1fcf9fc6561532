use Rattle.altering.specs.Treed.{treed_few}
use Rattle.editing.specs.Editing.{mapped_ok, mapped_err, renews_refused, renews_altered, few_fit, thrown}
use Rattle.editing.proofs.renew.Goals as goal

pub returns-in_err-altered : goal.returns-in_err-altered
returns-in_err-altered c =
    let e = mapped_err _ c.alter-call.result _ c.map_err.ensures.cases c.in_err-altered.was in
    rw (thrown _ c.from_residual.ensures.1, e.2) (renews_refused c.alter-call.ensures.0 e.0 e.1)

pub counts_of-requires : goal.counts_of-requires
counts_of-requires c = few_fit _ c.alter-call.ensures.1 (treed_few _ _ _ _ _ _ c.requires.2) (mapped_ok _ c.alter-call.result _ c.map_err.ensures.cases c.in_ok-altered.was)

pub returns : goal.returns
returns c = renews_altered c.alter-call.ensures.0 _ _ _ _ c.requires.2 (mapped_ok _ c.alter-call.result _ c.map_err.ensures.cases c.in_ok-altered.was) c.counts_of.ensures

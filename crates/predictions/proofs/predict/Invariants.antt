use Rattle.predictions.specs.Listing.{Listed}
use Rattle.predictions.proofs.predict.Given as goal

abbrev pub invariant-loop-p : goal.invariant-loop-p
invariant-loop-p l = Listed l.rows l.sets l.head.t l.p l.cells l.low

use Rattle.predictions.specs.Listing.{Marked}
use Rattle.predictions.proofs.list_row.Given as goal

abbrev pub invariant-loop-a : goal.invariant-loop-a
invariant-loop-a l = Marked l.w l.new l.at l.a l.initial.cells l.cells l.crowded

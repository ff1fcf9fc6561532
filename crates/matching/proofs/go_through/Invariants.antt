use Rattle.std.proofs.Common.{◌-◌, ◌≤◌}
use Rattle.notes.specs.Lists.{nodes_of, ends_of, widths_of, starts_of, matches_of}
use Rattle.matching.specs.Handing.{Few}
use Rattle.matching.specs.Through.{Through}
use Rattle.matching.specs.Noted.{Entries}
use Rattle.matching.proofs.go_through.Given as goal

abbrev pub invariant-loop-at : goal.invariant-loop-at
invariant-loop-at l = record {
  node : l.at.node ≤ l.sizes.new;
  token : l.at.token ≤ l.at.node;
  through : Through (nodes_of l.fn.notes) l.sizes.old l.fn.notes.slots l.sizes.new (ends_of l.fn.notes) (widths_of l.fn.notes) l.sizes.tokens (starts_of l.fn.notes) l.change.place l.change.removed l.change.inserted l.at.node l.at.token (matches_of l.notes);
  few : Few l.sizes.old (matches_of l.notes);
  viewed : Entries l.fn.notes l.notes;
}

abbrev pub decreases-loop-at : goal.decreases-loop-at
decreases-loop-at l = l.sizes.new - l.at.node

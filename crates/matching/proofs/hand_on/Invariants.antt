use Rattle.std.proofs.Common.{◌+◌, ◌-◌, ◌≤◌, ◌<◌}
use Rattle.notes.specs.Lists.{ends_of, widths_of, matches_of}
use Rattle.matching.specs.Handing.{Few, HandingAt}
use Rattle.matching.specs.Noted.{Entries}
use Rattle.matching.proofs.hand_on.Given as goal

abbrev pub invariant-loop-c : goal.invariant-loop-c
invariant-loop-c l = record {
  last : l.last ≤ l.fn.notes.slots + l.fn.sizes.new;
  stop : l.stop ≤ l.fn.sizes.old;
  low_c : l.i < l.c;
  low_d : l.j < l.d;
  handing : HandingAt (ends_of l.fn.notes) (widths_of l.fn.notes) l.fn.notes.slots l.i l.j (matches_of l.fn.notes) l.c l.d (matches_of l.notes);
  few : Few l.fn.sizes.old (matches_of l.notes);
  viewed : Entries l.fn.notes l.notes;
}

abbrev pub decreases-loop-c : goal.decreases-loop-c
decreases-loop-c l = l.last - l.c

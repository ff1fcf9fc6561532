use Rattle.std.proofs.Common.{◌≡◌, ◌*◌, ◌≤◌, length}
use Rattle.listing.specs.Rows.{rows_before}
use Rattle.listing.specs.Writing.{line_room}
use Rattle.listing.proofs.put_tree.Given as goal

abbrev pub invariant-loop-s : goal.invariant-loop-s
invariant-loop-s l = record {
  bytes : l.out.bytes ≡ rows_before l.tree l.nodes l.s;
  room : length l.out.bytes ≤ line_room * l.s;
}

use Rattle.std.proofs.Common.{◌≡◌, ◌+◌, ◌*◌, ◌≤◌, ◌++◌, length, drop}
use Rattle.listing.specs.Text.{row}
use Rattle.listing.specs.Writing.{field_room, rest_row}
use Rattle.listing.proofs.put_row.Given as goal

abbrev pub invariant-loop-i : goal.invariant-loop-i
invariant-loop-i l = record {
  bytes : l.out.bytes ++ rest_row (drop l.i l.fields) ≡ l.initial.out.bytes ++ row l.fields;
  room : length l.out.bytes ≤ length l.initial.out.bytes + field_room * l.i;
}

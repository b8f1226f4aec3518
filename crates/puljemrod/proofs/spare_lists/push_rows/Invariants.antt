use Rattle.std.proofs.Common.{◌≡◌, ◌+◌, ◌++◌, map, take, vec_len, vec_capacity}
use Rattle.puljemrod.specs.Rows.{remaining_of}
use Rattle.puljemrod.proofs.spare_lists.push_rows.Given as goal

abbrev pub invariant-loop-row : goal.invariant-loop-row
invariant-loop-row l = record {
  items : l.list.items ≡ l.initial.list.items ++ map remaining_of (take l.row-index l.rows);
  count : vec_len l.list ≡ vec_len l.initial.list + l.row-index;
  capacity : vec_capacity l.list ≡ vec_capacity l.initial.list;
}

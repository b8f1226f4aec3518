use Rattle.std.proofs.Common.{◌≡◌, ◌++◌, map, take, drop}
use Rattle.puljemrod.proofs.copies.write_rows.Given as goal

abbrev pub invariant-loop-at : goal.invariant-loop-at
invariant-loop-at g l = l.out ≡ map (g.R.Row.row_of l.common) (take l.at l.items) ++ drop l.at l.initial.out

use Rattle.std.proofs.Common.{◌≡◌, ◌-◌, ◌^◌, length, take, flat_map, min}
use Rattle.puljemrod.specs.CommandRows.{copies_for}
use Rattle.puljemrod.proofs.commands.count_copies.Given as goal

abbrev pub invariant-loop-one : goal.invariant-loop-one
invariant-loop-one l = l.count ≡ min (2 ^ 64 - 1) (length (flat_map copies_for (take l.one-index l.nodes)))

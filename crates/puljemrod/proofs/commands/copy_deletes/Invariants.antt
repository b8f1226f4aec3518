use Rattle.std.proofs.Common.{◌≡◌, ◌-◌, ◌++◌, length, take, drop, flat_map, min}
use Rattle.puljemrod.specs.CommandRows.{deletes_for}
use Rattle.puljemrod.proofs.commands.copy_deletes.Given as goal

abbrev pub invariant-loop-one : goal.invariant-loop-one
invariant-loop-one l = record {
  left : l.left ≡ l.initial.left - length (flat_map deletes_for (take l.one-index l.nodes));
  count : l.count ≡ min (length l.initial.out) (length (drop l.initial.left (flat_map deletes_for (take l.one-index l.nodes))));
  out : l.out ≡ take l.count (drop l.initial.left (flat_map deletes_for (take l.one-index l.nodes))) ++ drop l.count l.initial.out;
}

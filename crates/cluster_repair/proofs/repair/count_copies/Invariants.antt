use Rattle.std.specs.Prelude.{◌≡◌, ◌-◌, ◌^◌, min, length, take}
use Rattle.std.specs.List.{flat_map}
use Rattle.cluster_repair.proofs.repair.count_copies.Given as goal

abbrev pub invariant-loop-node : goal.invariant-loop-node
invariant-loop-node l = l.copies ≡ min (length (flat_map (λ n. n.transfers) (take l.node-index l.commands.nodes))) (2 ^ 64 - 1)

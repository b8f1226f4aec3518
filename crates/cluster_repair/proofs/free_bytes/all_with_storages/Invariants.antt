use Rattle.std.specs.Prelude.{◌≡◌, map, take}
use Rattle.cluster_repair.specs.History.{numbers_of, with_storages}
use Rattle.cluster_repair.proofs.free_bytes.all_with_storages.Given as goal

abbrev pub invariant-loop-node : goal.invariant-loop-node
invariant-loop-node l = map numbers_of l.nodes.items ≡ map (with_storages l.topology.cluster) (take l.node-index l.node-items)

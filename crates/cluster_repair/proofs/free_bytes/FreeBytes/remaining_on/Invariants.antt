use Rattle.std.proofs.Common.{◌≡◌, map, take}
use Rattle.cluster_repair.specs.LinkModel.{remaining_in}
use Rattle.cluster_repair.proofs.free_bytes.FreeBytes.remaining_on.Given as goal

abbrev pub invariant-loop-storage : goal.invariant-loop-storage
invariant-loop-storage l = l.free.items ≡ map (remaining_in l.self) (take l.storage-index l.node.storages.items)

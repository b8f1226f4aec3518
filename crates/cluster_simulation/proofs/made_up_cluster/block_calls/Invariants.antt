use Rattle.std.proofs.Common.{◌≡◌, ◌∷◌, map, take}
use Rattle.cluster_simulation.specs.NewBlocks.{addition, notice}
use Rattle.cluster_simulation.proofs.made_up_cluster.block_calls.Given as goal

abbrev pub invariant-loop-storage : goal.invariant-loop-storage
invariant-loop-storage l = l.calls.items ≡ addition l.id l.replication ∷ map (notice l.id) (take l.storage-index l.storages)

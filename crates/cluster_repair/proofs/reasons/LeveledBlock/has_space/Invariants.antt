use Rattle.std.specs.Prelude.{◌≡◌, false, take}
use Rattle.std.specs.List.{list_any}
use Rattle.cluster_repair.specs.Reasons.{would_fit}
use Rattle.cluster_repair.proofs.reasons.LeveledBlock.has_space.Given as goal

abbrev pub invariant-loop-storage : goal.invariant-loop-storage
invariant-loop-storage l = list_any (would_fit l.self.topology.now.cluster l.self.replicas.now l.self.level l.self.length l.free) (take l.storage-index l.free.storages.items) ≡ false

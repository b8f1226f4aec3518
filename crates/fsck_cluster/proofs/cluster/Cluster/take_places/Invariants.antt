use Rattle.std.proofs.Common.{◌≡◌, drop}
use Rattle.fsck_cluster.specs.Clusters.{after_places}
use Rattle.fsck_cluster.proofs.cluster.Cluster.take_places.Given as goal

-- the replicas are those that were taken, and then the remaining ones
abbrev pub invariant-loop-listed : goal.invariant-loop-listed
invariant-loop-listed l =
    after_places l.initial.self l.block l.block.replicas ≡ after_places l.self l.block (drop l.listed-index l.block.replicas)

use Rattle.std.proofs.Common.{◌≡◌, drop}
use Rattle.fsck_cluster.specs.Clusters.{after_spares}
use Rattle.fsck_cluster.proofs.cluster.Cluster.add_spares_of.Given as goal

-- the nodes are those that have a storage, and then the remaining ones
abbrev pub invariant-loop-row : goal.invariant-loop-row
invariant-loop-row l = after_spares l.initial.self l.nodes ≡ after_spares l.self (drop l.row-index l.nodes)

use Rattle.std.specs.Prelude.{◌≡◌, false, take}
use Rattle.std.specs.List.{list_any}
use Rattle.bm_base.specs.Machine.Replicas.{share_node}
use Rattle.cluster_repair.proofs.reasons.LeveledBlock.is_on_their_node.Given as goal

abbrev pub invariant-loop-replica : goal.invariant-loop-replica
invariant-loop-replica l = list_any (λ r. share_node l.self.topology.now.cluster l.storage r.storage) (take l.replica-index l.self.replicas.now) ≡ false

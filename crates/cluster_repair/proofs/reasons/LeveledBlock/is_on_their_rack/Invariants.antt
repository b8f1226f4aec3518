use Rattle.std.specs.Prelude.{◌≡◌, false, take}
use Rattle.std.specs.List.{list_any}
use Rattle.std.specs.Prelude.{not, ◌&&◌}
use Rattle.bm_base.specs.Words.{is_good, is_draining, share_rack}
use Rattle.cluster_repair.proofs.reasons.LeveledBlock.is_on_their_rack.Given as goal

abbrev pub invariant-loop-replica : goal.invariant-loop-replica
invariant-loop-replica l = list_any (λ r. is_good r.tag && (not (is_draining l.self.topology.now.cluster r.storage) && share_rack l.self.topology.now.cluster l.storage r.storage)) (take l.replica-index l.self.replicas.now) ≡ false

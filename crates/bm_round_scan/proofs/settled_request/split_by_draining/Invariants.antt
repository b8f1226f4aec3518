use Rattle.std.proofs.Common.{◌≡◌, not, filter, take}
use Rattle.bm_base.specs.Machine.Replicas.{is_draining}
use Rattle.bm_round_scan.proofs.settled_request.split_by_draining.Given as goal

-- the storages so far, split by whether their nodes drain
pub record AreSplit (l : goal.Live-loop-storage) : Type 0 where
  pub live : l.live ≡ filter (λ s. not (is_draining l.topology.cluster s)) (take l.storage-index l.storages)
  pub drained : l.drained ≡ filter (is_draining l.topology.cluster) (take l.storage-index l.storages)

abbrev pub invariant-loop-storage : goal.invariant-loop-storage
invariant-loop-storage l = AreSplit l

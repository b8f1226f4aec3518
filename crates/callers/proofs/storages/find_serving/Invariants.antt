use Rattle.std.proofs.Common.{◌≡◌, ◌&&◌, not, filter, take}
use Rattle.bm_base.specs.Words.{knows_storage, is_draining}
use Rattle.callers.proofs.storages.find_serving.Given as goal

-- the list has those of the storages so far that serve
abbrev pub invariant-loop-storage : goal.invariant-loop-storage
invariant-loop-storage l = l.found.items ≡ filter (λ s. knows_storage l.topology.cluster s && not (is_draining l.topology.cluster s)) (take l.storage-index l.storages)

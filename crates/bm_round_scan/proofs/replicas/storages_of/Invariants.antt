use Rattle.std.proofs.Common.{◌≡◌, ◌++◌, true, drop}
use Rattle.bm_levels.specs.Status.{storages_at}
use Rattle.bm_round_scan.proofs.replicas.storages_of.Given as goal

abbrev pub invariant-loop-storage : goal.invariant-loop-storage
invariant-loop-storage l = l.storages ++ storages_at (λ _ _. true) (drop l.storage-index l.replicas) ≡ storages_at (λ _ _. true) l.replicas

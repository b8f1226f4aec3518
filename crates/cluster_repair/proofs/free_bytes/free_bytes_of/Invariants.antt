use Rattle.std.specs.Prelude.{◌≡◌, ℕ, nat_eq, take, unwrap_or, if◌then◌else◌}
use Rattle.std.specs.HashMap.{get}
use Rattle.bm_base.specs.Words.{has}
use Rattle.cluster_repair.specs.LinkModel.{free_in}
use Rattle.cluster_repair.proofs.free_bytes.free_bytes_of.Given as goal

abbrev pub invariant-loop-storage : goal.invariant-loop-storage
invariant-loop-storage l = (s : ℕ) → unwrap_or (get nat_eq l.free s) 0 ≡ (if has (take l.storage-index l.storages) s then free_in l.topology.cluster s else 0)

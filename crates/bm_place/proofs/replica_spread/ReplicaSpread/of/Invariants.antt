use Rattle.std.proofs.Common.{◌≡◌, drop}
use Rattle.bm_place.specs.ReplicaSpread.{with_storages, no_spread}
use Rattle.bm_place.proofs.replica_spread.ReplicaSpread.of.Given as goal

-- the rest, added to the spread so far, gives the spread of all
abbrev pub invariant-loop-storage : goal.invariant-loop-storage
invariant-loop-storage l = with_storages l.topology.cluster l.spread (drop l.storage-index l.held) ≡ with_storages l.topology.cluster no_spread l.held

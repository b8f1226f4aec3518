use Rattle.std.proofs.Common.{◌≡◌, map, take}
use Rattle.bm_place.specs.Holders.{holder_at}
use Rattle.bm_place.proofs.holders.fill_holders.Given as goal

abbrev pub invariant-loop-storage : goal.invariant-loop-storage
invariant-loop-storage l = l.holders.items ≡ map (holder_at l.topology.cluster) (take l.storage-index l.live)

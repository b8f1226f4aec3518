use Rattle.std.proofs.Common.{◌≡◌, drop}
use Rattle.std.specs.Prelude.{filter_map}
use Rattle.bm_base.specs.Machine.Replicas.{rack_of}
use Rattle.bm_base.specs.Spread.{spread, spread_after}
use Rattle.bm_round_scan.proofs.replicas.spread_of.Given as goal

-- the rest, counted after the first rack so far, gives the spread of all
abbrev pub invariant-loop-storage : goal.invariant-loop-storage
invariant-loop-storage l = spread_after l.first (filter_map (rack_of l.topology.cluster) (drop l.storage-index l.storages)) ≡ spread (filter_map (rack_of l.topology.cluster) l.storages)

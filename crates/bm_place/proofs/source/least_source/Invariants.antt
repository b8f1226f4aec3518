use Rattle.std.proofs.Common.{◌≡◌, map, drop, None}
use Rattle.bm_place.specs.Sources.{source_at, cmp_sources, may_send, streams_by}
use Rattle.bm_place.specs.Tables.{count_at}
use Rattle.bm_place.specs.Scan.{scan}
use Rattle.bm_place.proofs.source.least_source.Given as goal

-- the scan of the rest gives the result of the scan of all
abbrev pub invariant-loop-storage : goal.invariant-loop-storage
invariant-loop-storage l =
    let row = source_at l.topology.cluster (streams_by l.topology.cluster (count_at l.streams.counts)) in
    scan cmp_sources (may_send l.level) l.best (map row (drop l.storage-index l.usable)) ≡ scan cmp_sources (may_send l.level) None (map row l.usable)

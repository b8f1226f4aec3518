use Rattle.std.proofs.Common.{◌≡◌, drop}
use Rattle.bm_base.specs.Spread.{spread, spread_after}
use Rattle.cluster_lost.specs.Sources.{racks_by}
use Rattle.cluster_lost.proofs.sources.spread_of.Given as goal

-- the rest, counted after the first rack so far, gives the spread of all
abbrev pub invariant-loop-source : goal.invariant-loop-source
invariant-loop-source l = spread_after l.first (racks_by (drop l.source-index l.sources)) ≡ spread (racks_by l.sources)

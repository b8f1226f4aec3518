use Rattle.std.proofs.Common.{◌≡◌, drop}
use Rattle.bm_base.specs.Spread.{spread, spread_after}
use Rattle.cluster_losses.proofs.row_counts.spread_of.Given as goal

-- the rest, counted after the first rack, gives the spread of all
abbrev pub invariant-loop-rack : goal.invariant-loop-rack
invariant-loop-rack l = spread_after l.first (drop l.rack-index l.racks) ≡ spread l.racks

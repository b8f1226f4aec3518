use Rattle.std.proofs.Common.{◌≡◌, map, take}
use Rattle.cluster_report.specs.Levels.{leveled}
use Rattle.cluster_report.proofs.levels.query_levels.Given as goal

abbrev pub invariant-loop-number : goal.invariant-loop-number
invariant-loop-number l = l.levels.items ≡ map (leveled l.manager.cluster l.manager.holdings) (take l.number-index l.blocks)

use Rattle.std.proofs.Common.{take}
use Rattle.cluster_pages.specs.AtRisk.{AreCounts}
use Rattle.cluster_pages.proofs.files_at_risk.count_by_file.Given as goal

abbrev pub invariant-loop-block : goal.invariant-loop-block
invariant-loop-block l = AreCounts l.files (take l.block-index l.blocks) l.counts.items

-- The report on a state.
use Rattle.std.specs.Prelude.{List, map, length}
use Rattle.bm_base.specs.Words.{keys, len, State, all_replicas, excess_replicas, missing_blocks}
use Rattle.cluster_report.specs.Catalogues.{len_of}
use Rattle.cluster_report.specs.TagTotals.{tags_counted, tag_bytes, blocks_held}
use Rattle.cluster_report.specs.Levels.{leveled, levels_counted, level_bytes, urgent_first}
use Rattle.cluster_report.specs.Nodes.{node_row}
use Rattle.cluster_report.specs.declared.levels.Leveled.{Leveled}
use Rattle.cluster_report.specs.declared.report.Report.{Report}

-- the known blocks that have a replica, with their levels
abbrev pub levels_held : State → List Leveled
levels_held M = map (leveled M.cluster M.holdings) (blocks_held (all_replicas M.holdings))

-- the report on a state
abbrev pub report_of : State → Report
report_of M = record {
  calls = M.calls;
  round = M.round;
  nodes = map (node_row M) (keys M.cluster.nodes);
  levels = levels_counted (levels_held M) (length (missing_blocks M.cluster M.holdings));
  level_bytes = level_bytes (len_of M.holdings.blocks) (levels_held M) (missing_blocks M.cluster M.holdings);
  tags = tags_counted (all_replicas M.holdings);
  tag_bytes = tag_bytes (len_of M.holdings.blocks) (all_replicas M.holdings);
  excess = length (excess_replicas M.holdings);
  transfers = len M.holdings.pending;
  missing = missing_blocks M.cluster M.holdings;
  urgent = urgent_first (levels_held M);
}

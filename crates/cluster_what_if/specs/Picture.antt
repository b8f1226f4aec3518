-- The points of the picture of the rounds.
use Rattle.cluster_repair.specs.declared.rows.Row.{Row}
use Rattle.cluster_simulation.specs.declared.counts.Counts.{Counts}

-- The counts after a round. A row has no other counts, so they are 0.
abbrev pub counts_of_row : Row → Counts
counts_of_row r = record {
  round = r.round;
  highest = r.levels.highest;
  very_under_replicated = r.levels.very_under_replicated;
  under_replicated = r.levels.under_replicated;
  badly_distributed = r.levels.badly_distributed;
  missing = r.levels.missing;
  pending = r.on_way;
  excess = 0;
  corrupt = 0;
  copies = r.commanded;
  deletes = 0;
  refused = 0;
}

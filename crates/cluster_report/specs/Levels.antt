-- Blocks counted by level, and the most urgent ones.
use Rattle.std.specs.Prelude.{ℕ, List, ◌++◌, filter, count_by, sum_by, is_none, if◌then◌else◌}
use Rattle.bm_base.specs.declared.replica.Level.TheVariants.{Highest, VeryUnderReplicated, UnderReplicated, BadlyDistributed}
use Rattle.bm_base.specs.declared.replica.Level.{Level}
use Rattle.bm_base.specs.Words.{Cluster, Holdings, is_at, level}
use Rattle.cluster_report.specs.declared.levels.Leveled.{Leveled}
use Rattle.cluster_report.specs.declared.levels.LevelBytes.{LevelBytes}
use Rattle.cluster_report.specs.declared.levels.LevelCounts.{LevelCounts}

-- a block with its level
abbrev pub leveled : Cluster → Holdings → ℕ → Leveled
leveled C H b = record { block = b; level = level C H b }

-- the number of these blocks at a level
abbrev pub count_at : Level → List Leveled → ℕ
count_at urgency ls = count_by (λ l. is_at urgency l.level) ls

-- the number of these blocks at each level, and the number of missing blocks
abbrev pub levels_counted : List Leveled → ℕ → LevelCounts
levels_counted ls missing = record {
  highest = count_at Highest ls;
  very_under_replicated = count_at VeryUnderReplicated ls;
  under_replicated = count_at UnderReplicated ls;
  badly_distributed = count_at BadlyDistributed ls;
  missing = missing;
  none = count_by (λ l. is_none l.level) ls;
}

-- the bytes of the blocks at a level, by the lengths of blocks
abbrev pub bytes_at : (ℕ → ℕ) → Level → List Leveled → ℕ
bytes_at len urgency ls = sum_by (λ l. if is_at urgency l.level then len l.block else 0) ls

-- the bytes of the blocks at each level, and of the missing blocks
abbrev pub level_bytes : (ℕ → ℕ) → List Leveled → List ℕ → LevelBytes
level_bytes len ls missing = record {
  highest = bytes_at len Highest ls;
  very_under_replicated = bytes_at len VeryUnderReplicated ls;
  under_replicated = bytes_at len UnderReplicated ls;
  badly_distributed = bytes_at len BadlyDistributed ls;
  missing = sum_by len missing;
  none = sum_by (λ l. if is_none l.level then len l.block else 0) ls;
}

-- the blocks at a level
abbrev pub all_at : Level → List Leveled → List Leveled
all_at urgency ls = filter (λ l. is_at urgency l.level) ls

-- the blocks that need a copy and have a source, by level and then in their order
abbrev pub urgent_first : List Leveled → List Leveled
urgent_first ls = ((all_at Highest ls ++ all_at VeryUnderReplicated ls) ++ all_at UnderReplicated ls) ++ all_at BadlyDistributed ls

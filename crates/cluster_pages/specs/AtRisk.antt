-- The files with blocks that are missing, or would be after one more failure.
use Rattle.std.specs.Prelude.{◌≡◌, ℕ, ◌+◌, ◌-◌, ◌^◌, ◌<◌, ◌==◌, min, set, Bool, false, if◌then◌else◌, nat_eq, nat_lt, Option, Some, None, List, map, filter, length, get_or, count_by}
use Rattle.std.specs.Option.{option_map_or}
use Rattle.std.specs.List.{enumerate_from}
use Rattle.bm_base.specs.declared.replica.Level.TheVariants.{Highest}
use Rattle.cluster_names.specs.FileTable.{FileTable, file_index_of}
use Rattle.cluster_names.specs.declared.files.FileIndex.{FileIndex}
use Rattle.cluster_report.specs.Levels.{all_at}
use Rattle.cluster_report.specs.declared.levels.Leveled.{Leveled}
use Rattle.cluster_pages.specs.declared.files_at_risk.AtRisk.{AtRisk}
use Rattle.cluster_pages.specs.declared.files_at_risk.FileRow.{FileRow}

-- adds 1 to the count at an index, if there is one
abbrev pub with_one : List ℕ → ℕ → List ℕ
with_one counts i = if nat_lt i (length counts) then set counts i (min (get_or counts i 0 + 1) (2 ^ 64 - 1)) else counts

-- counts a block of this file, if it has one
abbrev pub with_counted : Option FileIndex → List ℕ → List ℕ
with_counted None counts = counts
with_counted (Some p) counts = with_one counts p.file

-- whether a block is in the file of this index
abbrev pub is_in : FileTable → ℕ → ℕ → Bool
is_in f file block = option_map_or (λ p. p.file == file) (file_index_of f block) false

-- the number of these blocks in each file
pub record AreCounts (f : FileTable) (blocks counts : List ℕ) : Type 0 where
  pub all : length counts ≡ length f.paths
  pub each : (file : ℕ) → file < length f.paths → get_or counts file 0 ≡ count_by (is_in f file) blocks

abbrev pub file_row : ℕ × ℕ → FileRow
file_row p = record { file = p.0; blocks = p.1 }

-- the files whose count is not 0, in the order of the input
abbrev pub rows_of : List ℕ → List FileRow
rows_of counts = filter (λ r. nat_lt 0 r.blocks) (map file_row (enumerate_from 0 counts))

-- the files among these that have none of the counted blocks
abbrev pub rows_without : List ℕ → List FileRow → List FileRow
rows_without counts rows = filter (λ r. nat_eq (get_or counts r.file 0) 0) rows

-- the blocks at the highest level
abbrev pub highest_of : List Leveled → List ℕ
highest_of urgent = map (λ l. l.block) (all_at Highest urgent)

-- A lost file has a missing block. An endangered file has a block at the highest level and is not
-- lost.
pub record AreAtRisk (f : FileTable) (missing : List ℕ) (urgent : List Leveled) (risk : AtRisk) : Type 0 where
  pub missing_counts : List ℕ
  pub missing_counted : AreCounts f missing missing_counts
  pub highest_counts : List ℕ
  pub highest_counted : AreCounts f (highest_of urgent) highest_counts
  pub lost : risk.lost ≡ rows_of missing_counts
  pub endangered : risk.endangered ≡ rows_without missing_counts (rows_of highest_counts)

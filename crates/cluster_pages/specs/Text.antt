-- The text of a report: a line for each fact. A line ends with the byte 10.
use Rattle.std.specs.Prelude.{ℕ, ◌+◌, ◌*◌, ◌/◌, ◌%◌, ◌^◌, ◌-◌, min, max, nat_eq, if◌then◌else◌, List, [], ◌++◌, Option, Some, None, codes, decimal, length, sum_by, slice_get, take}
use Rattle.std.specs.List.{flat_map, fold}
use Rattle.std.specs.Option.{option_map_or}
use Rattle.bm_base.specs.declared.replica.Level.{Level}
use Rattle.bm_base.specs.declared.replica.Level.TheVariants.{Highest, VeryUnderReplicated, UnderReplicated, BadlyDistributed, NoUsableReplica}
use Rattle.cluster_names.specs.FileTable.{FileTable, path_of}
use Rattle.cluster_names.specs.Rows.{Rows, Text, name_or_number}
use Rattle.cluster_names.specs.declared.names.Names.{Names}
use Rattle.cluster_report.specs.Text.{count_line}
use Rattle.cluster_report.specs.declared.tag_counts.TagCounts.{TagCounts}
use Rattle.cluster_report.specs.declared.tag_counts.TagBytes.{TagBytes}
use Rattle.cluster_report.specs.declared.levels.Leveled.{Leveled}
use Rattle.cluster_report.specs.declared.levels.LevelCounts.{LevelCounts}
use Rattle.cluster_report.specs.declared.levels.LevelBytes.{LevelBytes}
use Rattle.cluster_report.specs.declared.nodes.NodeState.{NodeState}
use Rattle.cluster_report.specs.declared.nodes.NodeState.TheVariants.{Live, Draining, Retired}
use Rattle.cluster_report.specs.declared.nodes.StorageRow.{StorageRow}
use Rattle.cluster_report.specs.declared.nodes.NodeRow.{NodeRow}
use Rattle.cluster_report.specs.declared.report.Report.{Report}
use Rattle.cluster_pages.specs.declared.files_at_risk.AtRisk.{AtRisk}
use Rattle.cluster_pages.specs.declared.files_at_risk.FileRow.{FileRow}

-- a sum of bytes, at most 2^128 - 1
abbrev pub capped : ℕ → ℕ → ℕ
capped a b = min (a + b) (2 ^ 128 - 1)

-- the bytes on these storages
abbrev pub bytes_on : List StorageRow → ℕ
bytes_on ss = fold (λ total s. capped total s.bytes) 0 ss

-- a part of a total in thousandths, rounded down; 0 if the total is 0
abbrev pub thousandths : ℕ → ℕ → ℕ
thousandths n total = min (n * 1000) (2 ^ 128 - 1) / max 1 total

-- a part in per cent, with one decimal
abbrev pub share : ℕ → ℕ → Text
share n total = decimal (thousandths n total / 10) ++ (codes "." ++ (decimal (thousandths n total % 10) ++ codes "%"))

-- a count, its bytes, and its part of the total
unfoldable pub amount_line : Text → ℕ → ℕ → ℕ → Text
amount_line what n bytes total = what ++ (codes " " ++ (decimal n ++ (codes " bytes " ++ (decimal bytes ++ (codes " " ++ (share n total ++ codes "\n"))))))

-- a total and its bytes
unfoldable pub total_line : Text → ℕ → ℕ → Text
total_line what n bytes = what ++ (codes " " ++ (decimal n ++ (codes " bytes " ++ (decimal bytes ++ codes "\n"))))

abbrev pub state_word : NodeState → Text
state_word Live = codes "live"
state_word Draining = codes "draining"
state_word Retired = codes "retired"

-- the replicas, their bytes and their part of all replicas, and the free bytes
unfoldable pub held_text : ℕ → ℕ → ℕ → ℕ → Text
held_text all replicas bytes remaining =
    codes " replicas " ++ (decimal replicas
    ++ (codes " bytes " ++ (decimal bytes
    ++ (codes " " ++ (share replicas all
    ++ (codes " remaining " ++ (decimal remaining ++ codes "\n")))))))

-- a node and its rack
unfoldable pub place_text : Names → NodeRow → Text
place_text names row = codes "node " ++ (name_or_number [] names.nodes row.node ++ (codes " rack " ++ name_or_number [] names.racks row.rack))

-- the state of a node, and its number of storages
unfoldable pub use_text : NodeRow → Text
use_text row = codes " " ++ (state_word row.state ++ (codes " storages " ++ decimal (length row.storages)))

-- a node: its rack, its state and its replicas
unfoldable pub node_line : Names → ℕ → NodeRow → Text
node_line names all row =
    place_text names row
    ++ (use_text row ++ held_text all (sum_by (λ s. s.replicas) row.storages) (bytes_on row.storages) (sum_by (λ s. s.remaining) row.storages))

unfoldable pub storage_line : Names → ℕ → StorageRow → Text
storage_line names all row =
    codes "storage " ++ (name_or_number [] names.storages row.storage ++ held_text all row.replicas row.bytes row.remaining)

-- a node, and then its storages
unfoldable pub node_text : Names → ℕ → NodeRow → Text
node_text names all row = node_line names all row ++ flat_map (storage_line names all) row.storages

abbrev pub all_blocks : LevelCounts → ℕ
all_blocks ls = ls.highest + ls.very_under_replicated + ls.under_replicated + ls.badly_distributed + ls.missing + ls.none

abbrev pub all_block_bytes : LevelBytes → ℕ
all_block_bytes ls =
    capped (capped (capped (capped (capped ls.highest ls.very_under_replicated) ls.under_replicated) ls.badly_distributed) ls.missing) ls.none

-- the number of blocks, and of those that lack replicas
unfoldable pub lacking_text : LevelCounts → LevelBytes → Text
lacking_text ls bytes =
    total_line (codes "blocks") (all_blocks ls) (all_block_bytes bytes)
    ++ (amount_line (codes "level highest") ls.highest bytes.highest (all_blocks ls)
    ++ (amount_line (codes "level very_under_replicated") ls.very_under_replicated bytes.very_under_replicated (all_blocks ls)
    ++ amount_line (codes "level under_replicated") ls.under_replicated bytes.under_replicated (all_blocks ls)))

unfoldable pub other_text : LevelCounts → LevelBytes → Text
other_text ls bytes =
    amount_line (codes "level badly_distributed") ls.badly_distributed bytes.badly_distributed (all_blocks ls)
    ++ (amount_line (codes "level missing") ls.missing bytes.missing (all_blocks ls)
    ++ amount_line (codes "level none") ls.none bytes.none (all_blocks ls))

-- the number of blocks, and of those at each level
unfoldable pub levels_text : LevelCounts → LevelBytes → Text
levels_text ls bytes = lacking_text ls bytes ++ other_text ls bytes

abbrev pub all_replicas : TagCounts → ℕ
all_replicas ts = ts.good + ts.stale + ts.bad + ts.stray

abbrev pub all_replica_bytes : TagBytes → ℕ
all_replica_bytes ts = capped (capped ts.good ts.stale) ts.bad

-- the number of replicas, and of those of each tag; the length of a stray one is unknown
unfoldable pub tags_text : TagCounts → TagBytes → Text
tags_text ts bytes =
    total_line (codes "replicas") (all_replicas ts) (all_replica_bytes bytes)
    ++ (amount_line (codes "good") ts.good bytes.good (all_replicas ts)
    ++ (amount_line (codes "stale") ts.stale bytes.stale (all_replicas ts)
    ++ (amount_line (codes "bad") ts.bad bytes.bad (all_replicas ts)
    ++ amount_line (codes "stray") ts.stray 0 (all_replicas ts))))

-- the end of a line: the file of a block, if it is known, and the index of the block there
abbrev pub end_with : Option (Text × ℕ) → Text
end_with None = codes "\n"
end_with (Some p) = codes " index " ++ (decimal p.1 ++ (codes " file " ++ (p.0 ++ codes "\n")))

unfoldable pub missing_line : FileTable → ℕ → Text
missing_line f b = codes "missing block " ++ (decimal b ++ end_with (path_of f b))

abbrev pub level_word : Level → Text
level_word Highest = codes "highest"
level_word VeryUnderReplicated = codes "very_under_replicated"
level_word UnderReplicated = codes "under_replicated"
level_word BadlyDistributed = codes "badly_distributed"
level_word NoUsableReplica = codes "missing"

abbrev pub urgent_text : FileTable → ℕ → Option Level → Text
urgent_text f b None = []
urgent_text f b (Some urgency) =
    codes "urgent block " ++ (decimal b ++ (codes " level " ++ (level_word urgency ++ end_with (path_of f b))))

-- a block without a level has no line
unfoldable pub urgent_line : FileTable → Leveled → Text
urgent_line f l = urgent_text f l.block l.level

-- a file at risk: the number of its blocks at risk, and its path
unfoldable pub file_line : Text → FileTable → FileRow → Text
file_line what f r =
    what ++ (codes " blocks " ++ (decimal r.blocks ++ (codes " file " ++ (option_map_or (λ path. path) (slice_get f.paths r.file) [] ++ codes "\n"))))

-- the numbers of accepted calls and of rounds, and the nodes
unfoldable pub cluster_text : Names → Report → Text
cluster_text names r =
    count_line (codes "calls") r.calls
    ++ (count_line (codes "rounds") r.round
    ++ (count_line (codes "nodes") (length r.nodes)
    ++ flat_map (node_text names (all_replicas r.tags)) r.nodes))

-- the numbers of excess replicas and of pending copies, and the first of the blocks that need
-- copies
unfoldable pub work_text : FileTable → ℕ → Report → Text
work_text f most r =
    count_line (codes "excess") r.excess
    ++ (count_line (codes "transfers") r.transfers
    ++ (flat_map (missing_line f) (take most r.missing)
    ++ flat_map (urgent_line f) (take most r.urgent)))

-- the numbers of lost and of endangered files, and the first of them
unfoldable pub risk_text : FileTable → ℕ → AtRisk → Text
risk_text f most risk =
    count_line (codes "lost files") (length risk.lost)
    ++ (flat_map (file_line (codes "lost") f) (take most risk.lost)
    ++ (count_line (codes "endangered files") (length risk.endangered)
    ++ flat_map (file_line (codes "endangered") f) (take most risk.endangered)))

-- no line about files if no file is known
abbrev pub files_text : FileTable → ℕ → AtRisk → Text
files_text f most risk = if nat_eq (length f.paths) 0 then [] else risk_text f most risk

-- the lines of a report, with at most `most` entries of each list
unfoldable pub report_text : Names → FileTable → ℕ → Report → AtRisk → Text
report_text names f most r risk =
    cluster_text names r ++ (levels_text r.levels r.level_bytes ++ (tags_text r.tags r.tag_bytes ++ (work_text f most r ++ files_text f most risk)))

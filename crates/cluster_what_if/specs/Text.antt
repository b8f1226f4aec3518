-- The text of an answer: a line for each fact. A line ends with the byte 10.
use Rattle.std.specs.Prelude.{ℕ, Bool, true, false, nat_le, nat_eq, if◌then◌else◌, List, [], ◌++◌, Option, Some, None, unwrap_or, codes, decimal, length, take}
use Rattle.std.specs.List.{flat_map}
use Rattle.bm_base.specs.Words.{get, Cluster}
use Rattle.cluster_names.specs.Rows.{name_or_number}
use Rattle.cluster_names.specs.declared.names.Names.{Names}
use Rattle.cluster_names.specs.FileTable.{FileTable, path_of}
use Rattle.cluster_report.specs.Text.{count_line}
use Rattle.cluster_report.specs.declared.levels.LevelCounts.{LevelCounts}
use Rattle.cluster_pages.specs.Text.{file_line}
use Rattle.cluster_pages.specs.declared.files_at_risk.FileRow.{FileRow}
use Rattle.cluster_losses.specs.declared.loss_events.Lost.{Lost}
use Rattle.cluster_losses.specs.declared.cluster_counts.ClusterCounts.{ClusterCounts}
use Rattle.cluster_what_if.specs.declared.answers.Answer.{Answer}

-- a node that is lost or drained, with its rack
unfoldable pub node_words : List ℕ → Names → ℕ → ℕ → List ℕ
node_words what names n rack =
    what ++ (codes " node " ++ (name_or_number [] names.nodes n ++ (codes " rack " ++ (name_or_number [] names.racks rack ++ codes "\n"))))

-- a node that is lost or drained, with its rack in the cluster
abbrev pub node_line : List ℕ → Names → Cluster → ℕ → List ℕ
node_line what names C n = node_words what names n (unwrap_or (get C.nodes n) 0)

-- a storage that is lost
unfoldable pub storage_line : Names → ℕ → List ℕ
storage_line names s = codes "lose storage " ++ (name_or_number [] names.storages s ++ codes "\n")

-- all that is lost or drained, by name
unfoldable pub lost_text : Names → Cluster → Lost → List ℕ
lost_text names C lost =
    flat_map (node_line (codes "drain") names C) lost.drained.items
    ++ (flat_map (storage_line names) lost.storages.items
    ++ flat_map (node_line (codes "lose") names C) lost.nodes.items)

-- a count, before the losses and after them
unfoldable pub change_line : List ℕ → ℕ → ℕ → List ℕ
change_line what before after = what ++ (codes " before " ++ (decimal before ++ (codes " after " ++ (decimal after ++ codes "\n"))))

-- the blocks at each level, before and after
unfoldable pub levels_text : LevelCounts → LevelCounts → List ℕ
levels_text before after =
    change_line (codes "level highest") before.highest after.highest
    ++ (change_line (codes "level very_under_replicated") before.very_under_replicated after.very_under_replicated
    ++ (change_line (codes "level under_replicated") before.under_replicated after.under_replicated
    ++ (change_line (codes "level badly_distributed") before.badly_distributed after.badly_distributed
    ++ (change_line (codes "level missing") before.missing after.missing
    ++ change_line (codes "level none") before.none after.none))))

-- the end of a line: the file of a block and its index there, if they are known
abbrev pub end_with : Option (List ℕ × ℕ) → List ℕ
end_with None = codes "\n"
end_with (Some p) = codes " index " ++ (decimal p.1 ++ (codes " file " ++ (p.0 ++ codes "\n")))

-- a lost block
unfoldable pub block_line : FileTable → ℕ → List ℕ
block_line f b = codes "lost block " ++ (decimal b ++ end_with (path_of f b))

-- how many blocks are lost, and the first of them
unfoldable pub blocks_text : FileTable → ℕ → List ℕ → List ℕ
blocks_text f most blocks = count_line (codes "lost blocks") (length blocks) ++ flat_map (block_line f) (take most blocks)

-- how many files are lost, and the first of them; nothing if no file is known
unfoldable pub files_text : FileTable → ℕ → List FileRow → List ℕ
files_text f most rows =
    if nat_eq (length f.paths) 0
    then []
    else count_line (codes "lost files") (length rows) ++ flat_map (file_line (codes "lost file") f) (take most rows)

abbrev pub yes_or_no : Bool → List ℕ
yes_or_no true = codes "yes"
yes_or_no false = codes "no"

-- whether the free bytes suffice for the bytes to copy
unfoldable pub fits_line : ClusterCounts → List ℕ
fits_line after = codes "free bytes suffice " ++ (yes_or_no (nat_le after.lacking after.free) ++ codes "\n")

-- the bytes to copy, the free bytes, and whether these suffice
unfoldable pub copies_text : ClusterCounts → List ℕ
copies_text after =
    count_line (codes "bytes to copy") after.lacking
    ++ (count_line (codes "free bytes") after.free
    ++ fits_line after)

-- the answer: the counts of the cluster before and after, the lost blocks, and their files
unfoldable pub answer_text : FileTable → ℕ → Answer → List ℕ
answer_text f most a =
    levels_text a.before.levels a.without.after.levels
    ++ (files_text f most a.risk.lost
    ++ (blocks_text f most a.without.lost
    ++ copies_text a.without.after))

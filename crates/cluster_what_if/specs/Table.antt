-- The text of a table: a heading, and a line for each rack or node that is lost alone.
use Rattle.std.specs.Prelude.{ℕ, nat_eq, nat_le, if◌then◌else◌, List, [], ◌++◌, codes, length}
use Rattle.std.specs.List.{flat_map}
use Rattle.cluster_names.specs.FileTable.{FileTable}
use Rattle.cluster_names.specs.Rows.{name_or_number}
use Rattle.cluster_names.specs.declared.names.Names.{Names}
use Rattle.cluster_losses.specs.declared.single_losses.Row.{Row}
use Rattle.cluster_losses.specs.declared.loss.Kind.{Kind}
use Rattle.cluster_losses.specs.declared.loss.Kind.TheVariants.{Rack}
use Rattle.cluster_losses.specs.declared.cluster_counts.ClusterCounts.{ClusterCounts}
use Rattle.cluster_losses.specs.declared.applied_losses.Outcome.{Outcome}
use Rattle.cluster_what_if.specs.Columns.{number_in, word_in, word_first, level_heads, level_numbers}
use Rattle.cluster_what_if.specs.Text.{yes_or_no}
use Rattle.cluster_what_if.specs.declared.findings.Table.{Table}

-- the kind of the rows: rack or node
abbrev pub kind_word : Kind → List ℕ
kind_word Rack = codes "rack"
kind_word _ = codes "node"

-- there is a column of lost files only if files are known
abbrev pub if_files : FileTable → List ℕ → List ℕ
if_files f text = if nat_eq (length f.paths) 0 then [] else text

abbrev pub files_head : FileTable → List ℕ
files_head f = if_files f (codes "lost_files ")

unfoldable pub end_of_heading : List ℕ
end_of_heading = codes "lost_blocks " ++ (level_heads ++ codes "       bytes_to_copy           free_bytes suffice\n")

unfoldable pub heading : FileTable → Kind → List ℕ
heading f kind = word_first 28 (kind_word kind) ++ (codes "  nodes " ++ (files_head f ++ end_of_heading))

-- the name of a rack or node, or its number
abbrev pub row_name : Names → Kind → ℕ → List ℕ
row_name names Rack n = name_or_number [] names.racks n
row_name names _ n = name_or_number [] names.nodes n

-- the name of a row, and the number of its nodes
unfoldable pub row_start : Names → Kind → Row → List ℕ
row_start names kind r = word_first 28 (row_name names kind r.number) ++ (codes " " ++ (number_in 6 r.nodes ++ codes " "))

-- the number of lost files
abbrev pub files_number : FileTable → ℕ → List ℕ
files_number f lost = if_files f (number_in 10 lost ++ codes " ")

-- the lost blocks, and the blocks at each level
unfoldable pub lost_text : Outcome → List ℕ
lost_text w = number_in 11 (length w.lost) ++ (codes " " ++ level_numbers w.after.levels)

-- the bytes to copy, the free bytes, and whether these suffice
unfoldable pub needs_text : ClusterCounts → List ℕ
needs_text s =
    number_in 20 s.lacking ++ (codes " "
    ++ (number_in 20 s.free ++ (codes " "
    ++ (word_in 7 (yes_or_no (nat_le s.lacking s.free)) ++ codes "\n"))))

unfoldable pub row_text : Names → FileTable → Kind → Row → List ℕ
row_text names f kind r = row_start names kind r ++ (files_number f r.lost_files ++ (lost_text r.without ++ needs_text r.without.after))

unfoldable pub table_text : Names → FileTable → Table → List ℕ
table_text names f t = heading f t.kind ++ flat_map (row_text names f t.kind) t.rows.items

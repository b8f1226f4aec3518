-- The table of files: the path, the index in the file and the number of each block, separated by
-- tabs. A line ends with the byte 10.
use Rattle.std.specs.Prelude.{ℕ, List, [], ◌++◌, codes, decimal, slice_get}
use Rattle.std.specs.List.{flat_map}
use Rattle.std.specs.Option.{option_map_or}
use Rattle.cluster_names.specs.FileTable.{FileTable}
use Rattle.cluster_names.specs.declared.files.FileIndex.{FileIndex}
use Rattle.fsck_text.specs.Cuts.{Text}

-- the row of a block: its file's path, and its index in the file
unfoldable pub row_text : ℕ → ℕ → Text → Text
row_text block index path = path ++ (codes "\t" ++ (decimal index ++ (codes "\t" ++ (decimal block ++ codes "\n"))))

-- the row of a block with its file
abbrev pub file_line : List Text → ℕ × FileIndex → Text
file_line paths p = option_map_or (row_text p.0 p.1.index) (slice_get paths p.1.file) []

unfoldable pub files_text : FileTable → Text
files_text f = flat_map (file_line f.paths) f.file_indices

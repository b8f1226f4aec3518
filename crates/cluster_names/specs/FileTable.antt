-- The file of each block.
use Rattle.std.specs.Prelude.{ℕ, Bool, nat_eq, is_some, List, [], ◌∷◌, ◌++◌, slice_get, Option, option_map, option_and_then, if◌then◌else◌}
use Rattle.std.specs.List.{list_any, position_or_len}
use Rattle.std.specs.Map.{lookup}
use Rattle.std.specs.Str.{bytes_eq}
use Rattle.cluster_names.specs.Rows.{Text}
use Rattle.cluster_names.specs.declared.files.FileIndex.{FileIndex}

-- the paths, each once, and the blocks with their file_indices, in the order of their addition
pub record FileTable : Type 0 where
  pub paths : List Text
  pub file_indices : List (ℕ × FileIndex)

abbrev pub no_blocks : FileTable
no_blocks = record { paths = []; file_indices = [] }

-- the file of a block, and its index there
abbrev pub file_index_of : FileTable → ℕ → Option FileIndex
file_index_of f block = lookup (nat_eq block) f.file_indices

abbrev pub has_block : FileTable → ℕ → Bool
has_block f block = is_some (file_index_of f block)

-- the path of a block's file, and the index of the block there
abbrev pub path_of : FileTable → ℕ → Option (Text × ℕ)
path_of f block = option_and_then (λ p. option_map (λ path. (path, p.index)) (slice_get f.paths p.file)) (file_index_of f block)

-- the index of a path; a new one comes last
abbrev pub path_index : List Text → Text → ℕ
path_index paths path = position_or_len (bytes_eq path) paths

-- the paths with this one, which is added at the end if it is new
abbrev pub with_path : List Text → Text → List Text
with_path paths path = if list_any (bytes_eq path) paths then paths else paths ++ path ∷ []

-- adds a block
abbrev pub with_block : FileTable → ℕ → Text → ℕ → FileTable
with_block f block path index = record {
  paths = with_path f.paths path;
  file_indices = f.file_indices ++ (block, record { file = path_index f.paths path; index = index }) ∷ [];
}

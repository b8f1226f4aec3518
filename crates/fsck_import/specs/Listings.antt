-- The files of the blocks that are taken.
use Rattle.std.specs.Prelude.{ℕ, Bool, not, [], if◌then◌else◌}
use Rattle.std.specs.Option.{option_map_or}
use Rattle.cluster_names.specs.FileTable.{FileTable, no_blocks, has_block, with_block}
use Rattle.fsck_text.specs.Cuts.{Text}
use Rattle.fsck_text.specs.Escapes.{escaped}
use Rattle.fsck_text.specs.Paths.{path_of}

-- the path of the current file, and the files of the blocks so far, if they are kept
pub record Listing : Type 0 where
  pub is_kept : Bool
  pub path : Text
  pub files : FileTable

abbrev pub no_listing : Bool → Listing
no_listing kept = record { is_kept = kept; path = []; files = no_blocks }

-- after a line, which may be the heading of a file; its path is kept as it is printed
abbrev pub headed : Listing → Text → Listing
headed l line = if l.is_kept then record l { path = option_map_or escaped (path_of line) l.path } else l

-- a block stays where it was listed first
abbrev pub with_listed_block : FileTable → ℕ → Text → ℕ → FileTable
with_listed_block files block path index = if not (has_block files block) then with_block files block path index else files

-- with one more block of the file
abbrev pub with_listed : Listing → ℕ → ℕ → Listing
with_listed l block index = if l.is_kept then record l { files = with_listed_block l.files block l.path index } else l
